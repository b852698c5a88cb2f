use Rattle.bw_log.specs.Views.{IsSound}
use Rattle.log_tests.proofs.tests.care.steps.wrong_step.Given as goal

abbrev pub invariant-loop-i : goal.invariant-loop-i
invariant-loop-i g l = IsSound (λ b. (goal.Segment-dyn g (b.vtable, b.value)).holding b.value) l.log
