-- What holds of tables over lives.

use Rattle.std.specs.Prelude.{ℕ, List, None}
use Rattle.std.specs.FinMap as finite
use Rattle.bw_ring.specs.declared.feed.Feed.{Feed}
use Rattle.bw_log.specs.Contents.{boxes}
use Rattle.bw_history.specs.declared.entry.Entry.{Entry}
use Rattle.bw_history.specs.Machine.{IsMachine, MayLeave}
use Rattle.bw_core.specs.Kept.{IsSound, Kept}
use Rattle.bw_core.specs.Machine.{machine_of}
use Rattle.bw_core.specs.Opened.{AreUnused}
use Rattle.bw_core.specs.Reopened.{Begins}
use Rattle.bw_rows.specs.Meaning.{Tables}
use Rattle.bw_rows.specs.Laws.{IsTables}
use Rattle.bw_home.specs.Maps.{map_of}
use Rattle.bw_calls.specs.Lives.{HasSome, StopsWith}

-- a store without a pair is lawful, and has no table
abbrev pub AnEmptyStoreIsLawful : Type 0
AnEmptyStoreIsLawful = IsTables (λ name. None) (λ q. None)

-- whatever entries a stop leaves, they make a lawful map with some of these tables
abbrev pub AStopLeavesTables : Type 0
AStopLeavesTables = (ts : List Tables) (feeds : List Feed) (s : Kept) (left : List Entry) → StopsWith ts feeds s → IsMachine (machine_of s)
    → MayLeave (machine_of s) left → HasSome ts (λ q. finite.get (map_of s left) q)

-- a store of one writer that begins over the boxes of such a one is such a one
abbrev pub TablesGoOn : Type 0
TablesGoOn = (ts : List Tables) (feeds fresh : List Feed) (old new : Kept) (places : ℕ) → StopsWith ts feeds old → IsSound old → IsMachine (machine_of old)
    → Begins (boxes old.log) new → AreUnused 1 places fresh → StopsWith ts fresh new
