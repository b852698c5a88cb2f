use Rattle.bw_home.specs.Ready.{IsReady}
use Rattle.bw_tabled.proofs.run.show.Given as goal

abbrev pub invariant-tables : goal.invariant-tables
invariant-tables g l = IsReady l.home (λ z. (goal.Segment-dyn g z).holding z.1)
