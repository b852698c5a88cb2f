use Rattle.std.proofs.Common.{◌≡◌, ◌<◌, ℕ, []}
use Rattle.bw_history.specs.Lanes.{known_at}
use Rattle.bw_core.proofs.LaneByLane.{TookOn}
use Rattle.bw_core.proofs.store.Core.take_known.Given as goal

abbrev pub invariant-lanes : goal.invariant-lanes
invariant-lanes g l = record {
  taken : TookOn (λ z. (goal.Segment-dyn g z).holding z.1) l.initial.self l.self;
  dry : (i : ℕ) → i < l.lane → known_at l.self.intake.lanes.items i ≡ [];
}
