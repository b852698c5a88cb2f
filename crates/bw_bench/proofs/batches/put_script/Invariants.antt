use Rattle.std.specs.Prelude.{◌≡◌}
use Rattle.bw_ring.specs.Ends.{ring_of_feed}
use Rattle.bw_bench.specs.Lent.{Keeps}
use Rattle.bw_bench.proofs.batches.put_script.Given as goal

abbrev pub invariant-batches : goal.invariant-batches
invariant-batches g l = record {
  store : Keeps l.initial.store l.store (λ z. (goal.Segment-dyn g z).holding z.1);
  feed : ring_of_feed l.feed ≡ ring_of_feed l.initial.feed;
}
