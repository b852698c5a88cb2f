use Rattle.std.specs.Prelude.{◌≡◌, map}
use Rattle.bw_ring.specs.Ends.{ring_of_feed}
use Rattle.test_subjects.specs.Views.{rings_by, IsSound}
use Rattle.store_tests.proofs.tests.store.walking.wrong_step.Given as goal

abbrev pub invariant-loop-i : goal.invariant-loop-i
invariant-loop-i g l =
    IsSound l.opened.store (λ z. (goal.Segment-dyn g z).holding z.1)
    × (map ring_of_feed l.opened.feeds.items ≡ rings_by l.opened.store (λ z. (goal.Segment-dyn g z).holding z.1))
