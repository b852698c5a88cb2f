use Rattle.std.proofs.Common.{◌≡◌, take}
use Rattle.bw_rows.specs.Laws.{IsLawful}
use Rattle.bw_home.specs.Maps.{maps_of}
use Rattle.bw_home.specs.Ready.{IsReady}
use Rattle.bw_calls.specs.Batches.{with_changes, IsUpTo}
use Rattle.bw_calls.specs.Lives.{Reads}
use Rattle.bw_calls.specs.Standing.{plain_in, tables_in}
use Rattle.bw_calls.proofs.batching.group_of.Given as goal

abbrev pub invariant-changes : goal.invariant-changes
invariant-changes g l =
    IsReady l.home (λ z. (goal.Segment-dyn g z).holding z.1)
    × ((maps_of l.home (λ z. (goal.Segment-dyn g z).holding z.1)).put ≡ (maps_of l.initial.home (λ z. (goal.Segment-dyn g z).holding z.1)).put)
    × Reads l.initial.home l.home (λ z. (goal.Segment-dyn g z).holding z.1)
    × (IsLawful (plain_in l.initial.home (λ z. (goal.Segment-dyn g z).holding z.1))
    → IsUpTo (plain_in l.initial.home (λ z. (goal.Segment-dyn g z).holding z.1)) (with_changes (tables_in l.initial.home (λ z. (goal.Segment-dyn g z).holding z.1)) (take l.i l.changes)) l.group)
