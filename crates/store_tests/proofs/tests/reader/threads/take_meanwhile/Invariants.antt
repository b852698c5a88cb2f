use Rattle.std.specs.Prelude.{◌≡◌}
use Rattle.bw_store.specs.Views.{kept_by, IsSound}
use Rattle.store_tests.proofs.tests.reader.threads.take_meanwhile.Given as goal

abbrev pub invariant-turns : goal.invariant-turns
invariant-turns g l =
    IsSound l.store (λ z. (goal.Segment-dyn g z).holding z.1)
    × ((kept_by l.store (λ z. (goal.Segment-dyn g z).holding z.1)).rings ≡ (kept_by l.fn.store (λ z. (goal.Segment-dyn g z).holding z.1)).rings)
