use Rattle.std.proofs.Common.{◌≡◌, ◌<◌, ◌≤◌, ◌*◌, ℕ, length}
use Rattle.std.specs.Prelude.{List}
use Rattle.bw_ring.specs.declared.lane.Lane.{Lane}
use Rattle.bw_core.specs.Following.{TookGroups}
use Rattle.bw_core.specs.Rounds.{InRound}
use Rattle.bw_core.specs.Kept.{Kept}
use Rattle.bw_history.specs.Lanes.{IsDry}
use Rattle.bw_core.specs.Views.{kept_by, noted_of, IsSound}
use Rattle.bw_core.proofs.store.Core.round_more.Given as goal

abbrev pub invariant-lanes : goal.invariant-lanes
invariant-lanes g l = record {
  sound : IsSound l.self (λ z. (goal.Segment-dyn g z).holding z.1);
  count : length l.self.intake.lanes.items ≡ length l.initial.self.intake.lanes.items;
  turned : (first : Kept) → TookGroups l.fn.taken.groups l.fn.taken.records first (kept_by l.initial.self (λ z. (goal.Segment-dyn g z).holding z.1))
      → TookGroups l.so_far.groups l.so_far.records first (kept_by l.self (λ z. (goal.Segment-dyn g z).holding z.1));
  low : l.fn.taken.groups ≤ l.so_far.groups;
  within : l.so_far.groups ≤ l.limit;
  few : l.so_far.records ≤ 4 * l.so_far.groups;
  dry : l.so_far.groups ≡ l.fn.taken.groups → (i : ℕ) → i < l.lane → IsDry l.self.intake.lanes.items i;
  noted : noted_of l.self ≡ noted_of l.initial.self;
  rounds : (first_lanes : List Lane) (first : Kept) (rounds : ℕ)
      → InRound rounds 0 first_lanes first l.initial.self.intake.lanes.items (kept_by l.initial.self (λ z. (goal.Segment-dyn g z).holding z.1))
      → InRound rounds l.lane first_lanes first l.self.intake.lanes.items (kept_by l.self (λ z. (goal.Segment-dyn g z).holding z.1));
}
