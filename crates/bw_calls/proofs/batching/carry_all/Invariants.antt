use Rattle.bw_rows.specs.Meaning.{Tables}
use Rattle.bw_rows.specs.Batches.{IsStanding}
use Rattle.bw_home.specs.Ready.{IsReady}
use Rattle.bw_calls.specs.Lives.{Stays}
use Rattle.bw_calls.specs.Standing.{plain_in}
use Rattle.bw_calls.proofs.batching.carry_all.Given as goal

abbrev pub invariant-rows : goal.invariant-rows
invariant-rows g l =
    IsReady l.home (λ z. (goal.Segment-dyn g z).holding z.1)
    × ((tables : Tables) → IsStanding tables (plain_in l.initial.home (λ z. (goal.Segment-dyn g z).holding z.1)) → IsStanding tables (plain_in l.home (λ z. (goal.Segment-dyn g z).holding z.1)))
    × ((tables : Tables) → IsStanding tables (plain_in l.initial.home (λ z. (goal.Segment-dyn g z).holding z.1)) → Stays tables l.initial.home l.home (λ z. (goal.Segment-dyn g z).holding z.1))
