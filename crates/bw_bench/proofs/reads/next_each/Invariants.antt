use Rattle.bw_core.specs.Views.{IsSound}
use Rattle.bw_bench.proofs.reads.next_each.Given as goal

abbrev pub invariant-keys : goal.invariant-keys
invariant-keys g l = IsSound l.core (λ z. (goal.Segment-dyn g z).holding z.1)
