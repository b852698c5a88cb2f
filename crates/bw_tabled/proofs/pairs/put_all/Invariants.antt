use Rattle.bw_home.specs.Ready.{IsReady}
use Rattle.bw_tabled.proofs.pairs.put_all.Given as goal

abbrev pub invariant-pairs : goal.invariant-pairs
invariant-pairs g l = IsReady l.home (λ z. (goal.Segment-dyn g z).holding z.1)
