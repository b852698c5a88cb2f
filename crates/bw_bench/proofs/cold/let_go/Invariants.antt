use Rattle.bw_core.specs.Views.{IsSound}
use Rattle.bw_bench.proofs.cold.let_go.Given as goal

abbrev pub invariant-pages : goal.invariant-pages
invariant-pages g l = IsSound l.core (λ z. (goal.Segment-dyn g z).holding z.1)
