use Rattle.bw_core.specs.Views.{IsSound}
use Rattle.bw_bench.proofs.reads.read_all.Given as goal

abbrev pub invariant-stretches : goal.invariant-stretches
invariant-stretches g l = IsSound l.core (λ z. (goal.Segment-dyn g z).holding z.1)
