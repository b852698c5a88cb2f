use Rattle.std.specs.Prelude.{◌≡◌}
use Rattle.bw_store.specs.Views.{kept_by, IsSound}
use Rattle.drive_tests.proofs.tests.reading.reads.Given as goal

abbrev pub invariant-puts : goal.invariant-puts
invariant-puts g l =
    IsSound l.store (λ z. (goal.Segment-dyn g z).holding z.1)
    × ((kept_by l.store (λ z. (goal.Segment-dyn g z).holding z.1)).rings ≡ (kept_by l.fn.store (λ z. (goal.Segment-dyn g z).holding z.1)).rings)
