-- The feeds stay ends of their rings.

use Rattle.std.proofs.Common.{◌≡◌, map}
use Rattle.bw_ring.specs.Ends.{ring_of_feed}
use Rattle.store_tests.proofs.tests.store.large.are_put.Given as goal

abbrev pub invariant-numbers : goal.invariant-numbers
invariant-numbers l = map ring_of_feed l.feeds.items ≡ map ring_of_feed l.fn.feeds.items
