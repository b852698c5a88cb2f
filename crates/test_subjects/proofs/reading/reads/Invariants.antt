use Rattle.std.specs.Prelude.{◌≡◌}
use Rattle.test_subjects.specs.Views.{rings_by, IsSound}
use Rattle.test_subjects.proofs.reading.reads.Given as goal

abbrev pub invariant-numbers : goal.invariant-numbers
invariant-numbers g l =
    IsSound l.store (λ z. (goal.Segment-dyn g z).holding z.1)
    × (rings_by l.store (λ z. (goal.Segment-dyn g z).holding z.1) ≡ rings_by l.fn.store (λ z. (goal.Segment-dyn g z).holding z.1))
