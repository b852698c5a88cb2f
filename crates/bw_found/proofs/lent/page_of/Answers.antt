use Rattle.std.proofs.Common.{◌∙◌, ap}
use Rattle.bw_record.specs.declared.leaf.Leaf.{Leaf}
use Rattle.bw_found.proofs.LentLaws.{pairs_told}
use Rattle.bw_found.proofs.lent.page_of.Goals as goal

pub returns : goal.returns
returns c pairs are =
    pairs_told c.args.version c.args.count c.args.bytes.now pairs c.empty-leaf.result c.push_each.new.page (ap (λ (l : Leaf). l.pairs) c.empty-leaf.ensures) are
    c.in_ok-push_each.ensures
    ∙ ap (λ (l : Leaf). record l { pairs = pairs }) c.empty-leaf.ensures
