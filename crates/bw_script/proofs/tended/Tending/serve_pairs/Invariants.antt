use Rattle.bw_home.specs.Ready.{IsReady}
use Rattle.bw_script.proofs.tended.Tending.serve_pairs.Given as goal

abbrev pub invariant-puts : goal.invariant-puts
invariant-puts g l = IsReady l.home (λ z. (goal.Segment-dyn g z).holding z.1)
