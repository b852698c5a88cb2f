use Rattle.bw_home.specs.Ready.{IsReady}
use Rattle.bw_tabled.proofs.subject.open_often.Given as goal

abbrev pub invariant-openings : goal.invariant-openings
invariant-openings g l = IsReady l.home (λ z. (goal.Segment-dyn g z).holding z.1)
