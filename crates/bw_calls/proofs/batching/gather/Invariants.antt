use Rattle.std.proofs.Common.{take}
use Rattle.bw_rows.specs.Laws.{IsLawful, IsTables}
use Rattle.bw_rows.specs.Meaning.{Tables}
use Rattle.bw_rows.specs.Batches.{IsGathering}
use Rattle.bw_home.specs.Ready.{IsReady}
use Rattle.bw_calls.specs.Batches.{with_changes}
use Rattle.bw_calls.specs.Lives.{Stays}
use Rattle.bw_calls.specs.Standing.{plain_in, tables_in}
use Rattle.bw_calls.proofs.batching.gather.Given as goal

abbrev pub invariant-changes : goal.invariant-changes
invariant-changes g l =
    IsReady l.home (λ z. (goal.Segment-dyn g z).holding z.1)
    × ((tables next : Tables) → IsGathering tables next (plain_in l.initial.home (λ z. (goal.Segment-dyn g z).holding z.1))
    → IsGathering tables (with_changes next (take l.i l.changes)) (plain_in l.home (λ z. (goal.Segment-dyn g z).holding z.1)))
    × (IsLawful (plain_in l.initial.home (λ z. (goal.Segment-dyn g z).holding z.1)) → IsTables (tables_in l.initial.home (λ z. (goal.Segment-dyn g z).holding z.1)) (plain_in l.home (λ z. (goal.Segment-dyn g z).holding z.1)))
    × (IsLawful (plain_in l.initial.home (λ z. (goal.Segment-dyn g z).holding z.1)) → Stays (tables_in l.initial.home (λ z. (goal.Segment-dyn g z).holding z.1)) l.initial.home l.home (λ z. (goal.Segment-dyn g z).holding z.1))
