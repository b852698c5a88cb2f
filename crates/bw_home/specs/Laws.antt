-- What holds of a home with one writer over its lives.

use Rattle.std.specs.Prelude.{◌≡◌, List, [], length, map, slice_index_or, MatchResult}
use Rattle.bw_page.specs.Leaves.{plain, union}
use Rattle.bw_ring.specs.Ends.{accepted}
use Rattle.bw_ring.specs.declared.feed.Feed.{Feed}
use Rattle.bw_log.specs.Contents.{boxes}
use Rattle.bw_lines.specs.declared.cause.RecoverCause.TheVariants.{Empty}
use Rattle.bw_care.specs.Recovery.{recovery}
use Rattle.bw_history.specs.declared.entry.Entry.{Entry}
use Rattle.bw_history.specs.Machine.{IsMachine, MayLeave, begun}
use Rattle.bw_core.specs.Kept.{IsSound, Kept}
use Rattle.bw_core.specs.Machine.{machine_of}
use Rattle.bw_core.specs.Reopened.{Begins}
use Rattle.bw_leaf.specs.Changed.{Map}
use Rattle.bw_home.specs.Beginning.{AreBegun}
use Rattle.bw_home.specs.Cuts.{IsAmong, IsMap}
use Rattle.bw_home.specs.Maps.{cuts_by, map_of}

-- the maps that a stop may leave, if the first of these feeds accepted all that was put
abbrev pub cuts_of : List Feed → Kept → List Map
cuts_of feeds s = cuts_by s (slice_index_or (map accepted feeds) 0 [])

-- whatever entries a stop leaves of a map, they make one of its cuts
abbrev pub AStopLeavesACut : Type 0
AStopLeavesACut = (feeds : List Feed) (s : Kept) (left : List Entry) → IsMap feeds s → IsMachine (machine_of s) → MayLeave (machine_of s) left
    → IsAmong (cuts_of feeds s) (map_of s left)

-- and a store that begins over the boxes of a map begins with one of its cuts
abbrev pub AMapGoesOn : Type 0
AMapGoesOn = (feeds : List Feed) (old new : Kept) → IsMap feeds old → IsSound old → IsMachine (machine_of old) → Begins (boxes old.log) new
    → IsAmong (cuts_of feeds old) (plain new.start [])

-- a home with one writer is a map if nothing was put and nothing was taken yet
abbrev pub ABegunHomeIsAMap : Type 0
ABegunHomeIsAMap = (feeds : List Feed) (s : Kept) → AreBegun feeds s.entries s.cuts → length feeds ≡ 1 → IsMap feeds s

-- the store of a home that is begun is the machine that begins with its start
abbrev pub ABegunHomeBegins : Type 0
ABegunHomeBegins = (feeds : List Feed) (s : Kept) → AreBegun feeds s.entries s.cuts → machine_of s ≡ begun (union s.start)

-- recovery finds in the boxes of a home that is begun the pages that it begins with, or no store in
-- those of a new one
abbrev pub ABegunHomeIsFound : Type 0
ABegunHomeIsFound =
    (feeds : List Feed) (s : Kept) → AreBegun feeds s.entries s.cuts → IsSound s
    → MatchResult (recovery (boxes s.log)) (λ finding. finding.leaves ≡ s.start) (λ cause. (cause ≡ Empty) × (s.before ≡ 0))
