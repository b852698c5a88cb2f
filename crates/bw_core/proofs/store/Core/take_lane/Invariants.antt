use Rattle.std.proofs.Common.{length}
use Rattle.bw_history.specs.Lanes.{known_at, StayDry}
use Rattle.bw_core.proofs.LaneByLane.{TookOn}
use Rattle.bw_core.proofs.store.Core.take_lane.Given as goal

abbrev pub invariant-records : goal.invariant-records
invariant-records g l = record {
  taken : TookOn (λ z. (goal.Segment-dyn g z).holding z.1) l.initial.self l.self;
  others : StayDry l.initial.self.intake.lanes.items l.self.intake.lanes.items;
}

abbrev pub decreases-records : goal.decreases-records
decreases-records g l = length (known_at l.self.intake.lanes.items l.lane)
