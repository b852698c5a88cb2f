use Rattle.bw_bench.specs.Lent.{Keeps}
use Rattle.bw_bench.proofs.asking.evict_all.Given as goal

abbrev pub invariant-pages : goal.invariant-pages
invariant-pages g l = Keeps l.initial.store l.store (λ z. (goal.Segment-dyn g z).holding z.1)
