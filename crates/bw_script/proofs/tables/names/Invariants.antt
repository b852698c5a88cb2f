use Rattle.bw_home.specs.Ready.{IsReady}
use Rattle.bw_script.proofs.tables.names.Given as goal

abbrev pub invariant-names : goal.invariant-names
invariant-names g l = IsReady l.home (λ z. (goal.Segment-dyn g z).holding z.1)
