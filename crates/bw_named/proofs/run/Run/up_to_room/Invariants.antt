use Rattle.bw_home.specs.Ready.{IsReady}
use Rattle.bw_named.proofs.run.Run.up_to_room.Given as goal

abbrev pub invariant-steps : goal.invariant-steps
invariant-steps g l = IsReady l.home (λ z. (goal.Segment-dyn g z).holding z.1)
