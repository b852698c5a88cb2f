-- Nothing was put yet, and the group is still here.

use Rattle.std.proofs.Common.{◌≡◌}
use Rattle.bw_ring.specs.Ends.{accepted, ring_of_feed}
use Rattle.bw_drive.proofs.writers.is_put.Given as goal

abbrev pub invariant-tries : goal.invariant-tries
invariant-tries l =
    (ring_of_feed l.feed ≡ ring_of_feed l.initial.feed) × (accepted l.feed ≡ accepted l.initial.feed) × (l.group ≡ l.initial.group)
