use Rattle.bw_bench.specs.Lent.{Keeps}
use Rattle.bw_bench.proofs.walks.stretches.Given as goal

abbrev pub invariant-stretches : goal.invariant-stretches
invariant-stretches g l = Keeps l.initial.store l.store (λ z. (goal.Segment-dyn g z).holding z.1)
