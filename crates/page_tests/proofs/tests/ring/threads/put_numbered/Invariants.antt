-- The feed stays an end of its ring.
use Rattle.std.proofs.Common.{◌≡◌}
use Rattle.bw_ring.specs.Ends.{ring_of_feed}
use Rattle.page_tests.proofs.tests.ring.threads.put_numbered.Given as goal

abbrev pub invariant-tries : goal.invariant-tries
invariant-tries l = ring_of_feed l.feed ≡ ring_of_feed l.fn.feed
