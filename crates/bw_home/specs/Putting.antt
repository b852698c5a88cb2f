-- What a put makes of the feeds.

use Rattle.std.specs.Prelude.{◌≡◌, ℕ, List, [], ◌∷◌, ◌++◌, map, slice_set, slice_index_or}
use Rattle.bw_record.specs.declared.record.Record.{Record}
use Rattle.bw_ring.specs.Marks.{marked}
use Rattle.bw_ring.specs.Ends.{accepted}
use Rattle.bw_ring.specs.declared.feed.Feed.{Feed}

-- the feed of this writer accepted a group after all others of it, and no other feed accepted any
abbrev pub AddedGroup : ℕ → List Record → List Feed → List Feed → Type 0
AddedGroup writer group old new =
    map accepted new ≡ slice_set (map accepted old) writer (slice_index_or (map accepted old) writer [] ++ marked group)

-- the feed of this writer accepted one record after all others of it, and no other feed accepted
-- any
abbrev pub Added : ℕ → Record → List Feed → List Feed → Type 0
Added writer item old new = AddedGroup writer (item ∷ []) old new
