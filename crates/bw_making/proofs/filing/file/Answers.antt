use Rattle.std.proofs.Common.{ap}
use Rattle.bw_record.specs.declared.block.Place.{Place}
use Rattle.bw_making.proofs.Filed.{filed_two, first_here, last_here}
use Rattle.bw_making.proofs.filing.file.Goals as goal

pub returns-clause-newest : goal.returns-clause-newest
returns-clause-newest c =
    let first = first_here c.args.making.now c.put_all.new.self c.args.page c.args.blocks.now c.requires.one c.in-Ok.first c.in-Ok.ensures.place in
    filed_two c.args.newest.now.items _ c.args.page _ _ _ _ c.if-blocks-le1.false c.push_reserved.ensures.items
    (last_here c.args.making.now c.put_all.new.self c.args.page c.args.blocks.now c.requires.one c.if-blocks-le1.false c.in-Ok.ensures.added
    _ _ (ap (λ (x : Place). x.frame) first) c.count.ensures)
