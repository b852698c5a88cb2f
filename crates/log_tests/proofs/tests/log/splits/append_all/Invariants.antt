use Rattle.test_boxes.specs.Views.{seen}
use Rattle.log_tests.specs.OnePage.{Counts}
use Rattle.log_tests.specs.Examples.{split_frames}
use Rattle.log_tests.proofs.tests.log.splits.append_all.Given as goal

abbrev pub invariant-loop-number : goal.invariant-loop-number
invariant-loop-number g l = Counts (seen l.log (λ z. (goal.Segment-dyn g z).holding z.1)) (split_frames l.number)
