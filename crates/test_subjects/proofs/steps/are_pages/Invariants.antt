use Rattle.std.specs.Prelude.{◌≡◌}
use Rattle.test_subjects.specs.Views.{rings_by, IsSound}
use Rattle.test_subjects.proofs.steps.are_pages.Given as goal

abbrev pub invariant-pages : goal.invariant-pages
invariant-pages g l =
    IsSound l.store (λ z. (goal.Segment-dyn g z).holding z.1)
    × (rings_by l.store (λ z. (goal.Segment-dyn g z).holding z.1) ≡ rings_by l.fn.store (λ z. (goal.Segment-dyn g z).holding z.1))
