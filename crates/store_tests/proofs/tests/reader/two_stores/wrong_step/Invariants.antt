use Rattle.bw_store.specs.Views.{IsSound}
use Rattle.store_tests.proofs.tests.reader.two_stores.wrong_step.Given as goal

abbrev pub invariant-steps : goal.invariant-steps
invariant-steps g l = IsSound l.left.served.store (λ z. (goal.Segment-dyn g z).holding z.1) × IsSound l.right.served.store
    (λ z. (goal.Segment-dyn g z).holding z.1)
