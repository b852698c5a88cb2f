-- No page leaves memory.
use Rattle.std.specs.Prelude.{◌≡◌, []}
use Rattle.bw_bench.proofs.pages.apply_all.Given as goal

abbrev pub invariant-records : goal.invariant-records
invariant-records l = l.leaves.evicted ≡ []
