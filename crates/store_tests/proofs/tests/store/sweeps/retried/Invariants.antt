use Rattle.std.specs.Prelude.{◌≡◌, map}
use Rattle.bw_ring.specs.Ends.{ring_of_feed}
use Rattle.test_subjects.specs.Views.{rings_by, IsSound}
use Rattle.store_tests.proofs.tests.store.sweeps.retried.Given as goal

abbrev pub invariant-steps : goal.invariant-steps
invariant-steps g l =
    IsSound l.held.store (λ z. (goal.Segment-dyn g z).holding z.1)
    × (map ring_of_feed l.held.feeds.items ≡ rings_by l.held.store (λ z. (goal.Segment-dyn g z).holding z.1))
