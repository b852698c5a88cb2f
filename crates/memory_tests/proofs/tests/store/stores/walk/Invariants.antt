use Rattle.std.specs.Prelude.{◌≡◌, map}
use Rattle.bw_ring.specs.Ends.{ring_of_feed}
use Rattle.bw_store.specs.Views.{kept_by, IsSound}
use Rattle.memory_tests.proofs.tests.store.stores.walk.Given as goal

abbrev pub invariant-loop-step : goal.invariant-loop-step
invariant-loop-step g l =
    IsSound l.store (λ z. (goal.Segment-dyn g z).holding z.1)
    × (map ring_of_feed l.feeds.items ≡ (kept_by l.store (λ z. (goal.Segment-dyn g z).holding z.1)).rings)
