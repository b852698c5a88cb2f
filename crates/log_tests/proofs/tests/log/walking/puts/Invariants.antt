use Rattle.test_boxes.specs.Views.{seen}
use Rattle.log_tests.specs.OnePage.{HoldsOne}
use Rattle.log_tests.proofs.tests.log.walking.puts.Given as goal

abbrev pub invariant-loop-i : goal.invariant-loop-i
invariant-loop-i g l = HoldsOne (seen l.log (λ z. (goal.Segment-dyn g z).holding z.1)) l.leaf
