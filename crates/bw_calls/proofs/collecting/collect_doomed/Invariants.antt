use Rattle.std.proofs.Common.{◌≡◌, true}
use Rattle.bw_rows.specs.Law.{is_doomed}
use Rattle.bw_rows.specs.Laws.{IsLawful}
use Rattle.bw_home.specs.Ready.{IsReady}
use Rattle.bw_calls.specs.Changes.{HasSameMarks, IsCollecting}
use Rattle.bw_calls.specs.Lives.{Stays}
use Rattle.bw_calls.specs.Standing.{plain_in, tables_in}
use Rattle.bw_calls.proofs.collecting.collect_doomed.Given as goal

abbrev pub invariant-chunks : goal.invariant-chunks
invariant-chunks g l =
    IsReady l.home (λ z. (goal.Segment-dyn g z).holding z.1)
    × (IsLawful (plain_in l.initial.home (λ z. (goal.Segment-dyn g z).holding z.1))
    → is_doomed (plain_in l.initial.home (λ z. (goal.Segment-dyn g z).holding z.1)) l.number.bytes ≡ true
    → IsCollecting (tables_in l.initial.home (λ z. (goal.Segment-dyn g z).holding z.1)) (plain_in l.home (λ z. (goal.Segment-dyn g z).holding z.1)) l.number.bytes)
    × (IsLawful (plain_in l.initial.home (λ z. (goal.Segment-dyn g z).holding z.1))
    → is_doomed (plain_in l.initial.home (λ z. (goal.Segment-dyn g z).holding z.1)) l.number.bytes ≡ true
    → Stays (tables_in l.initial.home (λ z. (goal.Segment-dyn g z).holding z.1)) l.initial.home l.home (λ z. (goal.Segment-dyn g z).holding z.1))
    × HasSameMarks (plain_in l.initial.home (λ z. (goal.Segment-dyn g z).holding z.1)) (plain_in l.home (λ z. (goal.Segment-dyn g z).holding z.1))
