use Rattle.bw_core.specs.Views.{IsSound}
use Rattle.bw_bench.proofs.reads.read_in_each_way.Given as goal

abbrev pub invariant-ways : goal.invariant-ways
invariant-ways g l = IsSound l.core (λ z. (goal.Segment-dyn g z).holding z.1)
