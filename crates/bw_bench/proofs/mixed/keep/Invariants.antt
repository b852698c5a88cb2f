use Rattle.bw_core.specs.Views.{IsSound}
use Rattle.bw_bench.proofs.mixed.keep.Given as goal

abbrev pub invariant-times : goal.invariant-times
invariant-times g l = IsSound l.core (λ z. (goal.Segment-dyn g z).holding z.1)
