use Rattle.std.proofs.Common.{◌<◌, ◌∙◌, sym, ap, length, arith}
use Rattle.bw_log.specs.Contents.{counted}
use Rattle.bw_care.specs.Cleaning.{is_old}
use Rattle.bw_care.specs.Views.{seen}
use Rattle.bw_care.proofs.CleaningSteps.{old_starts, old_pushed, old_skipped}
use Rattle.bw_care.proofs.moves.old_pages.Goals.{then-is_old+in_ok-push, else-is_old}
use Rattle.bw_care.proofs.moves.old_pages.Goals as goal

pub loop-index-init : goal.loop-index-init
loop-index-init g c =
    old_starts c.new-pages.result.items c.args.last (counted (seen c.args.log.now (λ b. (goal.Segment-dyn g b).holding b.1)))
    (length c.args.log.now.pages.items) c.new-pages.ensures.items

pub loop-index-preserved : goal.loop-index-preserved
loop-index-preserved g c =
    let inside : c.loop-index.index < length c.args.log.now.pages.items = omega (arith, c.loop-index-test.true, c.pages-index-end.ensures) in
    let frames = counted (seen c.args.log.now (λ b. (goal.Segment-dyn g b).holding b.1)) in
    let place = c.base_of.ensures.some (omega arith) in
    elim c.if-is_old.branch [
      | then-is_old+in_ok-push w ↦ old_pushed c.loop-index.pages.items c.if-is_old.pages.items _ c.args.last frames c.loop-index.index
          (length c.args.log.now.pages.items) c.loop-index.invariant inside
          (ap (is_old c.args.last) (sym place) ∙ sym w.if-is_old.ensures) (ap (λ v. v.items) w.pages-is ∙ w.in_ok-push.ensures.items)
      | else-is_old w ↦ old_skipped c.loop-index.pages.items c.if-is_old.pages.items _ c.args.last frames c.loop-index.index
          (length c.args.log.now.pages.items) c.loop-index.invariant inside
          (ap (is_old c.args.last) (sym place) ∙ sym w.if-is_old.ensures) (ap (λ v. v.items) w.pages-is)
    ]
