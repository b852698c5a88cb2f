use Rattle.bw_rows.specs.Laws.{IsLawful, IsNoTable, IsTables}
use Rattle.bw_home.specs.Ready.{IsReady}
use Rattle.bw_calls.specs.Changes.{HasSameMarks}
use Rattle.bw_calls.specs.Lives.{Stays}
use Rattle.bw_calls.specs.Standing.{plain_in, tables_in}
use Rattle.bw_calls.proofs.naming.clear_rows.Given as goal

abbrev pub invariant-rows : goal.invariant-rows
invariant-rows g l =
    IsReady l.home (λ z. (goal.Segment-dyn g z).holding z.1)
    × (IsLawful (plain_in l.initial.home (λ z. (goal.Segment-dyn g z).holding z.1)) → IsNoTable (plain_in l.initial.home (λ z. (goal.Segment-dyn g z).holding z.1)) l.table.bytes
    → IsTables (tables_in l.initial.home (λ z. (goal.Segment-dyn g z).holding z.1)) (plain_in l.home (λ z. (goal.Segment-dyn g z).holding z.1)))
    × (IsLawful (plain_in l.initial.home (λ z. (goal.Segment-dyn g z).holding z.1)) → IsNoTable (plain_in l.initial.home (λ z. (goal.Segment-dyn g z).holding z.1)) l.table.bytes
    → Stays (tables_in l.initial.home (λ z. (goal.Segment-dyn g z).holding z.1)) l.initial.home l.home (λ z. (goal.Segment-dyn g z).holding z.1))
    × HasSameMarks (plain_in l.initial.home (λ z. (goal.Segment-dyn g z).holding z.1)) (plain_in l.home (λ z. (goal.Segment-dyn g z).holding z.1))
