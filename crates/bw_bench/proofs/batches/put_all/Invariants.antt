use Rattle.std.specs.Prelude.{◌≡◌}
use Rattle.bw_ring.specs.Ends.{ring_of_feed}
use Rattle.bw_bench.proofs.batches.put_all.Given as goal

abbrev pub invariant-puts : goal.invariant-puts
invariant-puts l = ring_of_feed l.feed ≡ ring_of_feed l.initial.feed
