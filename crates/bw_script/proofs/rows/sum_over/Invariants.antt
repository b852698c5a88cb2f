use Rattle.bw_home.specs.Ready.{IsReady}
use Rattle.bw_script.proofs.rows.sum_over.Given as goal

abbrev pub invariant-parts : goal.invariant-parts
invariant-parts g l = IsReady l.home (λ z. (goal.Segment-dyn g z).holding z.1)
