-- The feed stays an end of its ring.
use Rattle.std.proofs.Common.{◌≡◌}
use Rattle.bw_ring.specs.Ends.{ring_of_feed}
use Rattle.test_subjects.proofs.putting.put_all.Given as goal

abbrev pub invariant-numbers : goal.invariant-numbers
invariant-numbers l = ring_of_feed l.feed ≡ ring_of_feed l.fn.feed
