use Rattle.bw_home.specs.Ready.{IsReady}
use Rattle.bw_segments.proofs.upgraded.dump_all.Given as goal

abbrev pub invariant-segments : goal.invariant-segments
invariant-segments g l = IsReady l.home (λ z. (goal.Segment-dyn g z).holding z.1)
