use Rattle.bw_bench.specs.Lent.{Keeps}
use Rattle.bw_bench.proofs.asking.get_all.Given as goal

abbrev pub invariant-gets : goal.invariant-gets
invariant-gets g l = Keeps l.initial.store l.store (λ z. (goal.Segment-dyn g z).holding z.1)
