use Rattle.bw_found.proofs.LentLaws.{ops_told}
use Rattle.bw_found.proofs.lent.change_by.Goals as goal

pub returns : goal.returns
returns c ops are =
    ops_told c.change_each.result c.args.version c.args.count c.args.bytes.now ops c.args.draft.now c.change_each.new.draft are c.change_each.ensures
