use Rattle.std.proofs.Common.{◌≡◌, ◌<◌, ◌≤◌, ◌*◌, ◌-◌, ℕ}
use Rattle.bw_core.specs.Following.{TookGroups}
use Rattle.bw_core.specs.Rounds.{InRound, IsFair}
use Rattle.bw_core.specs.Views.{kept_by, noted_of, IsSound}
use Rattle.bw_core.proofs.store.Core.turn.Given as goal

abbrev pub invariant-rounds : goal.invariant-rounds
invariant-rounds g l = record {
  sound : IsSound l.self (λ z. (goal.Segment-dyn g z).holding z.1);
  turned : TookGroups l.taken.groups l.taken.records (kept_by l.initial.self (λ z. (goal.Segment-dyn g z).holding z.1))
      (kept_by l.self (λ z. (goal.Segment-dyn g z).holding z.1));
  within : l.taken.groups ≤ l.limit;
  few : l.taken.records ≤ 4 * l.taken.groups;
  noted : noted_of l.self ≡ noted_of l.initial.self;
  fair : IsFair l.initial.self.intake.lanes.items (kept_by l.initial.self (λ z. (goal.Segment-dyn g z).holding z.1))
      (kept_by l.self (λ z. (goal.Segment-dyn g z).holding z.1));
  rounds : l.taken.groups < l.limit → (rounds : ℕ) × InRound rounds 0 l.initial.self.intake.lanes.items
      (kept_by l.initial.self (λ z. (goal.Segment-dyn g z).holding z.1)) l.self.intake.lanes.items
      (kept_by l.self (λ z. (goal.Segment-dyn g z).holding z.1));
}

abbrev pub decreases-rounds : goal.decreases-rounds
decreases-rounds g l = l.limit - l.taken.groups
