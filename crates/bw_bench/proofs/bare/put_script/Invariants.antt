use Rattle.bw_core.specs.Views.{IsSound}
use Rattle.bw_bench.proofs.bare.put_script.Given as goal

abbrev pub invariant-batches : goal.invariant-batches
invariant-batches g l = IsSound l.core (λ z. (goal.Segment-dyn g z).holding z.1)
