use Rattle.std.proofs.Common.{◌≡◌}
use Rattle.bw_home.specs.Maps.{maps_of}
use Rattle.bw_home.specs.Ready.{IsReady}
use Rattle.bw_calls.specs.Lives.{Reads}
use Rattle.bw_calls.proofs.naming.next_number.Given as goal

abbrev pub invariant-names : goal.invariant-names
invariant-names g l =
    IsReady l.home (λ z. (goal.Segment-dyn g z).holding z.1)
    × ((maps_of l.home (λ z. (goal.Segment-dyn g z).holding z.1)).put ≡ (maps_of l.initial.home (λ z. (goal.Segment-dyn g z).holding z.1)).put)
    × Reads l.initial.home l.home (λ z. (goal.Segment-dyn g z).holding z.1)
