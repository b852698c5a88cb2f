-- What a log is to its callers.

use Rattle.std.specs.Prelude.{ℕ, ◌+◌, ◌-◌, ◌^◌, ◌<◌, ◌≤◌, ◌≡◌, ◌⊎◌, ◌==◌, Bool, true, false, if◌then◌else◌, Option, Some, None, List, [], ◌∷◌, ◌++◌, length}
use Rattle.std.specs.Prelude.{map, take, slice_get}
use Rattle.std.specs.List.{filter, AllByRecursion}
use Rattle.bw_codec.specs.Grammar.{header_bytes}
use Rattle.bw_record.specs.declared.leaf.Leaf.{Leaf}
use Rattle.bw_record.specs.declared.block.Place.{Place}
use Rattle.bw_record.specs.declared.block.Frame.{Frame}
use Rattle.bw_page.specs.Standing.{Stand}
use Rattle.bw_device.specs.Boxes.{HasRoomOf, IsSpareOf}
use Rattle.bw_device.specs.Holding.{Holding}
use Rattle.bw_device.specs.declared.memory.TheConstants.{MAX_CAPACITY}
use Rattle.bw_log.specs.Places.{place_of, base_of, walk_to, first_number, AreLinked}
use Rattle.bw_log.specs.Segments.{Limits, header_with, frames_of, entries, AreLive, IsCleanLast, AreFrom, is_before_next, next_of}
use Rattle.bw_log.specs.declared.places.FrameAt.{FrameAt}
use Rattle.bw_log.specs.declared.places.PageAt.{PageAt}

pub record Contents : Type 0 where
  -- in the order of their numbers
  pub live : List Holding
  -- in the order in which they came
  pub spares : List Holding
  -- the most pairs of a page, and the most bytes of a frame
  pub m : ℕ
  pub f : ℕ
  -- the oldest live segment's, or else the next segment's
  pub number : ℕ
  -- the segments up to this number have version 1, those after it version 2
  pub old_to : ℕ
  -- the newest live segment takes frames
  pub is_open : Bool
  pub is_failed : Bool
  -- the next frame's
  pub next : Option ℕ
  pub frames : List FrameAt
  pub pages : List PageAt

-- all boxes
abbrev pub boxes : Contents → List Holding
boxes c = c.live ++ c.spares

-- their leases
abbrev pub roster : Contents → List ℕ
roster c = map (λ h. h.lease) (boxes c)

-- all rooms
abbrev pub rooms_of : Contents → List ℕ
rooms_of c = map (λ h. h.room) (boxes c)

-- ---- a log without rooms, leases and failures

pub record Image : Type 0 where
  pub m : ℕ
  pub f : ℕ
  pub number : ℕ
  pub old_to : ℕ
  pub is_open : Bool
  pub is_failed : Bool
  pub next : Option ℕ
  -- of the live segments
  pub bytes : List (List ℕ)
  pub frames : List FrameAt
  pub pages : List PageAt

abbrev pub image : Contents → Image
image c = record {
  m = c.m;
  f = c.f;
  number = c.number;
  old_to = c.old_to;
  is_open = c.is_open;
  is_failed = c.is_failed;
  next = c.next;
  bytes = map (λ h. h.bytes) c.live;
  frames = c.frames;
  pages = c.pages;
}

-- the frames that the log counts: a failed append may have left one more
abbrev pub counted_in : Image → List Frame
counted_in i = filter (λ f. is_before_next i.next f.number) (frames_of i.bytes)

abbrev pub counted : Contents → List Frame
counted c = counted_in (image c)

-- where they stand
abbrev pub counted_at : Image → List FrameAt
counted_at i = map (λ e. e.0) (filter (λ e. is_before_next i.next e.1.number) (entries i.number i.bytes))

-- ---- the table of places

-- a place of frame 0 is none
abbrev pub some_place : Place → Option Place
some_place p = if p.frame == 0 then None else Some p

abbrev pub entry_place : (PageAt → Place) → Option PageAt → Option Place
entry_place field None = None
entry_place field (Some e) = some_place (field e)

-- what a table says of a page, from 1
abbrev pub place_in : (PageAt → Place) → List PageAt → ℕ → Option Place
place_in field pages p = entry_place field (slice_get pages (p - 1))

-- the frame of a line's last block, and its walk; none of both if there is no line
abbrev pub entry_walk : Option PageAt → ℕ × ℕ
entry_walk None = (0, 0)
entry_walk (Some e) = (e.place.frame, e.walk)

abbrev pub walk_in : List PageAt → ℕ → ℕ × ℕ
walk_in pages p = entry_walk (slice_get pages (p - 1))

-- the table says where each page's last touching and last setting block stand, and from how many frames it is read
pub record IsTable (pages : List PageAt) (frames : List Frame) : Type 0 where
  pub places : (p : ℕ) → 1 ≤ p → place_in (λ e. e.place) pages p ≡ place_of p frames
  pub bases : (p : ℕ) → 1 ≤ p → place_in (λ e. e.base) pages p ≡ base_of p frames
  pub walks : (p : ℕ) → 1 ≤ p → walk_in pages p ≡ walk_to p frames

-- there are no frames and no pages, or the frames are so many leaves
abbrev pub IsStanding : ℕ → List Frame → ℕ → Type 0
IsStanding m frames pages =
    ((frames ≡ []) × (pages ≡ 0)) ⊎ ((leaves : List Leaf) × Stand m frames leaves × (length leaves ≡ pages))

-- the counted frames stand for the leaves for which they stood
abbrev pub KeepsLeaves : Contents → Contents → Type 0
KeepsLeaves old new = (leaves : List Leaf) → Stand old.m (counted old) leaves → Stand old.m (counted new) leaves

-- no more room than a box may have
abbrev pub IsBounded : Holding → Type 0
IsBounded h = h.room ≤ MAX_CAPACITY

-- room for a header and one frame at least, and no more than a box may have
abbrev pub IsRoomy : ℕ → Holding → Type 0
IsRoomy f h = HasRoomOf (24 + f) h

-- an empty box with such room
abbrev pub IsSpare : ℕ → Holding → Type 0
IsSpare f h = IsSpareOf (24 + f) h

-- ---- what a failed append may have left

-- a frame that could have followed the counted ones
pub record CouldFollow (i : Image) (frame : Frame) : Type 0 where
  pub number : i.next ≡ Some frame.number
  pub links : AreLinked (counted_in i ++ frame ∷ [])
  pub leaves : List Leaf
  pub stands : Stand i.m (counted_in i ++ frame ∷ []) leaves

-- after the counted frames no whole frame stands, or one that could have followed them
abbrev pub IsLeft : Image → Type 0
IsLeft i =
    (frames_of i.bytes ≡ counted_in i)
    ⊎ ((frame : Frame) × (frames_of i.bytes ≡ counted_in i ++ frame ∷ []) × CouldFollow i frame)

-- a spare is empty, or has a beginning of the header of this segment
abbrev pub HasBeginning : ℕ → ℕ → ℕ → Holding → Type 0
HasBeginning number m f h =
    (h.bytes ≡ [])
    ⊎ ((number < 2 ^ 64) × (kept : ℕ) × (h.bytes ≡ take kept (header_bytes (header_with number m f))))

-- the first spare does, and the others are empty
abbrev pub AreTorn : ℕ → ℕ → ℕ → List Holding → Type 0
AreTorn number m f [] = Unit {0}
AreTorn number m f (s ∷ ss) = HasBeginning number m f s × AllByRecursion (IsSpare f) ss

-- ---- what every log keeps between calls

-- if the frame limit of version 1 is this
abbrev pub limits_of : Image → ℕ → Limits
limits_of i old_f = record { m = i.m; f = i.f; old_f = old_f; old_to = i.old_to }

-- of its image
pub record IsImage (i : Image) : Type 0 where
  -- 1. the limits are those that a log may have
  pub limits : (4 ≤ i.m) × (i.m ≤ 32) × (65536 ≤ i.f) × (i.f ≤ 262144)
  -- 2. segments are numbered from 1
  pub numbers : 1 ≤ i.number
  -- 3. each live segment is a header with its number, whole frames and a tail, and the numbers follow one another;
  -- those of version 1 come first and have one frame limit, and the next segment has version 2
  pub live : (old_f : ℕ) × AreLive (limits_of i old_f) i.number i.bytes
  pub news : i.old_to < i.number + length i.bytes
  -- 4. a newest segment that takes frames has version 2 and no tail
  pub ends : i.is_open ≡ true → i.is_failed ≡ false → IsCleanLast i.m i.f i.number i.bytes
  -- 5. unless an append failed, all whole frames count
  pub every : i.is_failed ≡ false → counted_in i ≡ frames_of i.bytes
  -- 6. if one failed, all whole frames count, or all but a last one that could have followed
  pub left : i.is_failed ≡ true → IsLeft i
  -- 7. the counted frames are numbered one after the other
  pub numbered : AreFrom (first_number (counted_in i)) (counted_in i)
  -- 8. the next frame's number is the one after the last of them, or 1
  pub follows : i.next ≡ next_of (counted_in i)
  -- 9. the lines of the frames say where each counted one stands, and how long it is
  pub listed : i.frames ≡ counted_at i
  -- 10. pages have numbers of 32 bits
  pub count : length i.pages < 2 ^ 32
  -- 11. each link back leads to the last earlier block of its page, or before the first counted frame
  pub linked : AreLinked (counted_in i)
  -- 12. the counted frames are the lawful leaves of so many pages
  pub stands : IsStanding i.m (counted_in i) (length i.pages)
  -- 13. the lines of the pages say where each page's last touching and last setting block stand
  pub table : IsTable i.pages (counted_in i)

-- of the boxes, beside the image
pub record IsSound (c : Contents) : Type 0 where
  -- 14. there are 4,096 boxes at most
  pub few : length c.live + length c.spares ≤ 4096
  -- 15. no live segment has more room than a box may have; it may have room only for its bytes
  pub bounds : AllByRecursion IsBounded c.live
  -- 16. each spare has room for a header and a frame
  pub rooms : AllByRecursion (IsRoomy c.f) c.spares
  -- 17. unless an append failed, each spare is empty
  pub empty : c.is_failed ≡ false → AllByRecursion (IsSpare c.f) c.spares
  -- 18. if one failed, the first spare is empty or has a beginning of the next segment's header, and the others are empty
  pub torn : c.is_failed ≡ true → AreTorn (c.number + length c.live) c.m c.f c.spares
  -- 19. what the image keeps
  pub holds : IsImage (image c)
