use Rattle.bw_home.specs.Ready.{IsReady}
use Rattle.bw_tabled.proofs.pairs.batch_all.Given as goal

abbrev pub invariant-batches : goal.invariant-batches
invariant-batches g l = IsReady l.home (λ z. (goal.Segment-dyn g z).holding z.1)
