use Rattle.bw_home.specs.Ready.{IsReady}
use Rattle.bw_tabled.proofs.subject.look_often.Given as goal

abbrev pub invariant-looks : goal.invariant-looks
invariant-looks g l = IsReady l.home (λ z. (goal.Segment-dyn g z).holding z.1)
