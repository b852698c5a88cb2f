use Rattle.bw_bench.specs.Lent.{Keeps}
use Rattle.bw_bench.proofs.walks.walks.Given as goal

abbrev pub invariant-walks : goal.invariant-walks
invariant-walks g l = Keeps l.initial.store l.store (λ z. (goal.Segment-dyn g z).holding z.1)
