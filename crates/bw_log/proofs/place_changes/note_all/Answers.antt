use Rattle.std.proofs.Common.{◌≡◌, ◌<◌, ◌+◌, ◌∙◌, sym, ap, subst, length, drop, List, arith}
use Rattle.bw_log.specs.PageTable.{noted_all, HaveLines}
use Rattle.bw_log.specs.declared.places.PageAt.{PageAt}
use Rattle.bw_log.proofs.Noted.{block_here, noting_goes_on, lines_go_on, length-noted}
use Rattle.bw_log.proofs.place_changes.note_all.Goals as goal

pub loop-index-preserved : goal.loop-index-preserved
loop-index-preserved c =
    let bs = c.args.buffer.now.blocks in
    let i = c.loop-index.index in
    let inside : i < length bs = omega (arith, c.loop-index-test.true, c.count-index-end.ensures) in
    let here = block_here bs i c.mark.result inside c.mark.ensures in
    let lines = lines_go_on i (length c.loop-index.pages.items) bs c.mark.result here c.loop-index.invariant.lines in
    let same : length c.note.new.pages.items ≡ length c.loop-index.pages.items =
    ap length c.note.ensures ∙ length-noted c.mark.result (record { frame = c.frame-frame.result; index = i }) c.loop-index.pages.items in
    record {
      noted = ap (λ (pages : List PageAt). noted_all c.frame-frame.result (i + 1) (drop (i + 1) bs) pages) c.note.ensures
          ∙ noting_goes_on c.frame-frame.result i bs c.mark.result c.loop-index.pages.items here ∙ c.loop-index.invariant.noted;
      lines = subst (HaveLines (drop (i + 1) bs)) (sym same) lines.1;
    }
