-- The groups so far were accepted, and their records are counted.

use Rattle.std.proofs.Common.{◌≡◌, ◌≤◌, ◌++◌, length, take}
use Rattle.bw_ring.specs.Ends.{accepted, ring_of_feed}
use Rattle.bw_ring.specs.Marks.{joined}
use Rattle.bw_drive.proofs.writers.put_script.Given as goal

abbrev pub invariant-groups : goal.invariant-groups
invariant-groups g l =
    (ring_of_feed l.feed ≡ ring_of_feed l.initial.feed)
    × (accepted l.feed ≡ accepted l.initial.feed ++ take l.done (joined l.script))
    × (l.done ≡ length (joined (take l.index l.script)))
    × (l.done ≤ length (joined l.script))
