-- The whole frames of some segments, each number once.

use Rattle.std.specs.Prelude.{ℕ, ◌+◌, ◌≡◌, ◌<◌, ◌==◌, ◌↔◌, if◌then◌else◌, Option, Some, None, IsSome, slice_get, List, [], ◌∷◌, ◌++◌, map}
use Rattle.std.specs.List.{flat_map, AllByRecursion, Contains}
use Rattle.std.specs.List.Sorted.{IsStrictlySortedBy}
use Rattle.std.specs.Ordering.{nat_cmp}
use Rattle.bw_record.specs.declared.block.Frame.{Frame}
use Rattle.bw_record.specs.declared.block.Block.{Block}
use Rattle.bw_rescue.specs.declared.gathered.At.{At}
use Rattle.bw_rescue.specs.declared.held.Held.{Held}
use Rattle.bw_rescue.specs.declared.held.Spot.{Spot}
use Rattle.bw_rescue.specs.declared.pages.Pages.{Pages}
use Rattle.bw_rescue.specs.Pages.{AreRead, gap_before, gaps_of, IsAmong}
use Rattle.bw_rescue.specs.Taken.{StandsAt, IsSpotAt}

-- ---- where a frame stands

-- the first of these that has a number begins here
abbrev pub first_of : ℕ → List Spot → Option ℕ
first_of number [] = None
first_of number (s ∷ spots) = if s.number == number then Some s.at else first_of number spots

-- .. in the segment of this index, if it has one; else where another one says
abbrev pub at_or : ℕ → Option ℕ → Option At → Option At
at_or index None other = other
at_or index (Some at) other = Some (record { segment = index; at = at })

-- .. in the first of some segments, of which the first has this index
abbrev pub place_of : ℕ → ℕ → List Held → Option At
place_of number index [] = None
place_of number index (h ∷ hs) = at_or index (first_of number h.spots.items) (place_of number (index + 1) hs)

-- ---- all of them

-- a frame stands at the first spot of its number
pub record IsFirst (held : List Held) (f : Frame) : Type 0 where
  pub place : At
  pub is : place_of f.number 0 held ≡ Some place
  pub segment : Held
  pub its : slice_get held place.segment ≡ Some segment
  pub len : ℕ
  pub stands : StandsAt segment.header segment.bytes.items place.at f len

abbrev pub numbers_in : List Frame → List ℕ
numbers_in frames = map (λ (f : Frame). f.number) frames

-- each frame that was taken of these segments, once, by ascending numbers
pub record AreGathered (held : List Held) (frames : List Frame) : Type 0 where
  pub each : AllByRecursion (IsFirst held) frames
  pub ascend : IsStrictlySortedBy nat_cmp (numbers_in frames)
  pub all : (number : ℕ) → IsSome (place_of number 0 held) → Contains (numbers_in frames) number

abbrev pub blocks_in : List Frame → List Block
blocks_in frames = flat_map (λ (f : Frame). f.blocks) frames

-- the next frame was read: its blocks, and which frames are missing before it
pub record IsReadNext (f : Frame) (old new : Pages) : Type 0 where
  pub pages : (done : List Block) → AreRead done old.lines → AreRead (done ++ f.blocks) new.lines
  pub last : new.last ≡ f.number
  pub gap : new.gaps.items ≡ old.gaps.items ++ gap_before old.last f.number

-- no frame of this number was taken, but one of a smaller number and one of a greater
pub record IsMissing (held : List Held) (number : ℕ) : Type 0 where
  pub none : place_of number 0 held ≡ None
  pub low : ℕ
  pub above : (low < number) × IsSome (place_of low 0 held)
  pub high : ℕ
  pub below : (number < high) × IsSome (place_of high 0 held)

-- the pages are those of the blocks of all these frames, and the gaps are those between the frames:
-- a number stands in one of them exactly if it is missing
pub record ArePagesOf (held : List Held) (pages : Pages) : Type 0 where
  pub frames : List Frame
  pub gathered : AreGathered held frames
  pub read : AreRead (blocks_in frames) pages.lines
  pub gaps : pages.gaps.items ≡ gaps_of 0 (numbers_in frames)
  pub lost : (number : ℕ) → IsAmong number pages.gaps.items ↔ IsMissing held number

-- ---- segments that were searched

-- a whole frame stands at each spot
abbrev pub IsSearched : Held → Type 0
IsSearched h = AllByRecursion (λ s. IsSpotAt h.header h.bytes.items s.number s.at) h.spots.items

abbrev pub AreSearched : List Held → Type 0
AreSearched held = AllByRecursion IsSearched held

-- what was noted, or else what a segment says
abbrev pub or_at : Option At → ℕ → Option ℕ → Option At
or_at None index None = None
or_at None index (Some at) = Some (record { segment = index; at = at })
or_at (Some noted) index other = Some noted
