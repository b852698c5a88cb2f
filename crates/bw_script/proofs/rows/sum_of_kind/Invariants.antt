use Rattle.bw_home.specs.Ready.{IsReady}
use Rattle.bw_script.proofs.rows.sum_of_kind.Given as goal

abbrev pub invariant-keys : goal.invariant-keys
invariant-keys g l = IsReady l.home (λ z. (goal.Segment-dyn g z).holding z.1)
