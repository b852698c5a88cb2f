use Rattle.bw_rows.specs.Laws.{IsLawful, IsTables}
use Rattle.bw_home.specs.Ready.{IsReady}
use Rattle.bw_calls.specs.Changes.{HasSameMarks}
use Rattle.bw_calls.specs.Lives.{Stays}
use Rattle.bw_calls.specs.Standing.{plain_in, tables_in}
use Rattle.bw_calls.proofs.collecting.collect_all.Given as goal

abbrev pub invariant-numbers : goal.invariant-numbers
invariant-numbers g l =
    IsReady l.home (λ z. (goal.Segment-dyn g z).holding z.1)
    × (IsLawful (plain_in l.initial.home (λ z. (goal.Segment-dyn g z).holding z.1)) → IsTables (tables_in l.initial.home (λ z. (goal.Segment-dyn g z).holding z.1)) (plain_in l.home (λ z. (goal.Segment-dyn g z).holding z.1)))
    × (IsLawful (plain_in l.initial.home (λ z. (goal.Segment-dyn g z).holding z.1)) → Stays (tables_in l.initial.home (λ z. (goal.Segment-dyn g z).holding z.1)) l.initial.home l.home (λ z. (goal.Segment-dyn g z).holding z.1))
    × HasSameMarks (plain_in l.initial.home (λ z. (goal.Segment-dyn g z).holding z.1)) (plain_in l.home (λ z. (goal.Segment-dyn g z).holding z.1))
