use Rattle.bw_home.specs.Ready.{IsReady}
use Rattle.bw_script.proofs.rows.batch_bytes.Given as goal

abbrev pub invariant-changes : goal.invariant-changes
invariant-changes g l = IsReady l.home (λ z. (goal.Segment-dyn g z).holding z.1)
