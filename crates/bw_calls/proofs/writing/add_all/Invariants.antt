use Rattle.std.proofs.Common.{◌≤◌, ◌-◌}
use Rattle.bw_home.specs.Ready.{IsReady}
use Rattle.bw_rows.specs.Meaning.{Tables}
use Rattle.bw_tables.specs.Writing.{IsWriting}
use Rattle.bw_calls.specs.Lives.{Stays}
use Rattle.bw_calls.specs.Standing.{plain_in}
use Rattle.bw_calls.proofs.PlainLaws.{Adding}
use Rattle.bw_calls.proofs.writing.add_all.Given as goal

abbrev pub invariant-groups : goal.invariant-groups
invariant-groups g l =
    IsReady l.home (λ z. (goal.Segment-dyn g z).holding z.1)
    × (Adding (plain_in l.initial.home (λ z. (goal.Segment-dyn g z).holding z.1)) (plain_in l.home (λ z. (goal.Segment-dyn g z).holding z.1)) l.number.bytes l.value l.from l.at
    × (l.at ≤ l.to))
    × ((tables : Tables) → IsWriting tables (plain_in l.initial.home (λ z. (goal.Segment-dyn g z).holding z.1)) l.number.bytes l.value l.from → Stays tables l.initial.home l.home (λ z. (goal.Segment-dyn g z).holding z.1))

abbrev pub decreases-groups : goal.decreases-groups
decreases-groups g l = l.to - l.at
