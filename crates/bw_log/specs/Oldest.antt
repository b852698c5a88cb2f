-- The oldest segment: which frames it has, and when it may be given up.

use Rattle.std.specs.Prelude.{ℕ, ◌<◌, Option, Some, None, List, [], ◌∷◌, length}
use Rattle.std.specs.List.{fold, filter}
use Rattle.bw_record.specs.declared.block.Place.{Place}
use Rattle.bw_device.specs.Holding.{Holding}
use Rattle.bw_log.specs.Places.{base_of}
use Rattle.bw_log.specs.Segments.{segment_frames, is_before_next}
use Rattle.bw_log.specs.Contents.{Contents, counted}
use Rattle.bw_log.specs.Reads.{IsPage}

-- the number of a segment's last counted frame, or 0
abbrev pub last_number : Contents → Holding → ℕ
last_number c h =
    fold (λ was f. f.number) 0 (filter (λ f. is_before_next c.next f.number) (segment_frames h.bytes))

-- a place, if there is one, stands in a later frame
abbrev pub IsAfter : ℕ → Option Place → Type 0
IsAfter last None = Unit {0}
IsAfter last (Some place) = last < place.frame

abbrev pub IsBaseAfter : Contents → List Holding → Type 0
IsBaseAfter c [] = Unit {0}
IsBaseAfter c (h ∷ hs) = (page : ℕ) → IsPage c page → IsAfter (last_number c h) (base_of page (counted c))

-- no page's last setting block stands in the oldest segment
abbrev pub NoBaseBefore : Contents → Type 0
NoBaseBefore c = IsBaseAfter c c.live

-- how many frames stand in the oldest segment
abbrev pub oldest_count : List Holding → ℕ
oldest_count [] = 0
oldest_count (h ∷ hs) = length (segment_frames h.bytes)
