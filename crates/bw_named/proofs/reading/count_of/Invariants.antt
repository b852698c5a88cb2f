use Rattle.bw_home.specs.Ready.{IsReady}
use Rattle.bw_named.proofs.reading.count_of.Given as goal

abbrev pub invariant-rows : goal.invariant-rows
invariant-rows g l = IsReady l.home (λ z. (goal.Segment-dyn g z).holding z.1)
