use Rattle.bw_home.specs.Ready.{IsReady}
use Rattle.bw_script.proofs.script.Script.up_to_spare.Given as goal

abbrev pub invariant-lines : goal.invariant-lines
invariant-lines g l = IsReady l.home (λ z. (goal.Segment-dyn g z).holding z.1)
