-- The lane stays an end of its ring.
use Rattle.std.proofs.Common.{◌≡◌}
use Rattle.bw_ring.specs.Ends.{ring_of_lane}
use Rattle.page_tests.proofs.tests.ring.threads.take_numbered.Given as goal

abbrev pub invariant-tries : goal.invariant-tries
invariant-tries l = ring_of_lane l.lane ≡ ring_of_lane l.fn.lane
