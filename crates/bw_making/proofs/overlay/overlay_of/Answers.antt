use Rattle.std.proofs.Common.{◌+◌, arith}
use Rattle.bw_making.proofs.OverlayLists.{ops_further, ops_end}
use Rattle.bw_making.proofs.overlay.overlay_of.Goals as goal

pub marks-preserved : goal.marks-preserved
marks-preserved c =
    let test = c.marks-test.true in
    let count = c.count-i-end.ensures in
    ops_further c.args.page c.args.making.now.blocks c.marks.i (c.marks.i + 1) c.marks.records.items c.add_block.new.records.items (omega arith)
    (omega arith) c.marks.invariant c.in_ok-add_block.ensures

pub returns : goal.returns
returns c =
    let end = c.marks-test.false in
    let count = c.count-i-end.ensures in
    ops_end c.args.page c.args.making.now.blocks c.marks.i c.marks.records.items (omega arith) c.marks.invariant
