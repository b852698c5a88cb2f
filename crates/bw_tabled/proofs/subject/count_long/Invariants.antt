use Rattle.bw_home.specs.Ready.{IsReady}
use Rattle.bw_tabled.proofs.subject.count_long.Given as goal

abbrev pub invariant-values : goal.invariant-values
invariant-values g l = IsReady l.home (λ z. (goal.Segment-dyn g z).holding z.1)
