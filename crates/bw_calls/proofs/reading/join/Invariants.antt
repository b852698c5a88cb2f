use Rattle.bw_home.specs.Maps.{maps_of}
use Rattle.bw_home.specs.Ready.{IsReady}
use Rattle.bw_calls.specs.Lives.{Reads}
use Rattle.bw_calls.proofs.PlainLaws.{Joining}
use Rattle.bw_calls.proofs.reading.join.Given as goal

abbrev pub invariant-chunks : goal.invariant-chunks
invariant-chunks g l =
    IsReady l.home (λ z. (goal.Segment-dyn g z).holding z.1)
    × Joining (maps_of l.initial.home (λ z. (goal.Segment-dyn g z).holding z.1)).put (maps_of l.home (λ z. (goal.Segment-dyn g z).holding z.1)).put l.number.bytes l.value.items l.i
    × Reads l.initial.home l.home (λ z. (goal.Segment-dyn g z).holding z.1)
