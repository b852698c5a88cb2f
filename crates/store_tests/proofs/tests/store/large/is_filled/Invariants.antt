use Rattle.std.specs.Prelude.{◌≡◌, map}
use Rattle.bw_ring.specs.Ends.{ring_of_feed}
use Rattle.test_subjects.specs.Views.{rings_by, IsSound}
use Rattle.store_tests.proofs.tests.store.large.is_filled.Given as goal

abbrev pub invariant-rounds : goal.invariant-rounds
invariant-rounds g l =
    IsSound l.held.store (λ z. (goal.Segment-dyn g z).holding z.1)
    × (map ring_of_feed l.held.feeds.items ≡ rings_by l.held.store (λ z. (goal.Segment-dyn g z).holding z.1))
