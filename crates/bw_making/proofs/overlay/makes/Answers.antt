use Rattle.std.proofs.Common.{◌+◌, sym, ◌∙◌, arith}
use Rattle.bw_making.proofs.OverlayLists.{made_here, made_further, made_nowhere}
use Rattle.bw_making.proofs.overlay.makes.Goals as goal

pub returns-then-mark_makes : goal.returns-then-mark_makes
returns-then-mark_makes c =
    let test = c.marks-test.true in
    let count = c.count-i-end.ensures in
    made_here c.args.page c.args.making.now.blocks c.marks.i c.mark.result (omega arith) c.mark.ensures
    (sym c.mark_makes.ensures ∙ c.if-mark_makes.true)

pub marks-preserved : goal.marks-preserved
marks-preserved c =
    let test = c.marks-test.true in
    let count = c.count-i-end.ensures in
    made_further c.args.page c.args.making.now.blocks c.marks.i c.mark.result (omega arith) c.mark.ensures (c.marks.i + 1) (omega arith)
    (sym c.mark_makes.ensures ∙ c.if-mark_makes.false) c.marks.invariant

pub returns : goal.returns
returns c =
    let end = c.marks-test.false in
    let count = c.count-i-end.ensures in
    made_nowhere c.args.page c.args.making.now.blocks c.marks.i (omega arith) c.marks.invariant
