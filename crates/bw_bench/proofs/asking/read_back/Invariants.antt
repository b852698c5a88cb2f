use Rattle.bw_bench.specs.Lent.{Keeps}
use Rattle.bw_bench.proofs.asking.read_back.Given as goal

abbrev pub invariant-keys : goal.invariant-keys
invariant-keys g l = Keeps l.initial.store l.store (λ z. (goal.Segment-dyn g z).holding z.1)
