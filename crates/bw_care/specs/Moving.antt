-- A cleaning under way, and what stops it.

use Rattle.std.specs.Prelude.{ℕ, ◌+◌, ◌<◌, ◌≤◌, ◌≡◌, ◌⊎◌, true, false, if◌then◌else◌, Option, Some, None, List, [], ◌∷◌, ◌++◌, length, map, take, drop}
use Rattle.std.specs.Prelude.{slice_get, Ok}
use Rattle.std.specs.List.{AllByRecursion}
use Rattle.bw_codec.specs.Grammar.{IsBlock, block_bytes, frame_bytes}
use Rattle.bw_record.specs.declared.leaf.Leaf.{Leaf}
use Rattle.bw_record.specs.declared.block.Block.TheVariants.{Base}
use Rattle.bw_record.specs.declared.block.Block.{Block}
use Rattle.bw_record.specs.declared.block.Frame.{Frame}
use Rattle.bw_leaf.specs.Forwards.{content, blocks_of}
use Rattle.bw_device.specs.Holding.{Holding, appended}
use Rattle.bw_log.specs.Contents.{Contents, image, boxes, counted, roster, IsSound}
use Rattle.bw_log.specs.Reads.{IsWornOut, HoldsPage}
use Rattle.bw_log.specs.Oldest.{oldest_count}
use Rattle.bw_log.specs.Appends as appends
use Rattle.bw_log.specs.Appends.{last_of, refusal, wants_segment, AfterAppend, Rose, IsSameLog}
use Rattle.bw_log.specs.declared.fault.LogFault.{LogFault}
use Rattle.bw_log.specs.declared.fault.LogFault.TheVariants.{NoMemory, BadConfig, NoSegment, Device, Failed, Spent, NoPage}
use Rattle.bw_care.specs.Cleaning.{IsRewritten, page_of, old_pages, oldest_last}
use Rattle.bw_care.specs.declared.fault.CleanFault.{CleanFault}
use Rattle.bw_care.specs.declared.fault.CleanFault.TheVariants.{NothingOld, Log}
use Rattle.bw_care.specs.declared.cleaner.Cleaned.{Cleaned}

-- ---- boxes

-- nothing but bytes at the end was added
abbrev pub IsLonger : Holding → Holding → Type 0
IsLonger old new = (piece : List ℕ) × (new ≡ appended old piece)

abbrev pub AreLonger : List Holding → List Holding → Type 0
AreLonger [] [] = Unit {0}
AreLonger [] (k ∷ ks) = ⊥
AreLonger (h ∷ hs) [] = ⊥
AreLonger (h ∷ hs) (k ∷ ks) = IsLonger h k × AreLonger hs ks

-- the live segments before the newest are what they were
pub record KeepsOlder (old new : List Holding) : Type 0 where
  pub many : length old ≤ length new
  pub same : (i : ℕ) → i + 1 < length old → slice_get new i ≡ slice_get old i

-- and the newest too, if it takes no frames: so the first frame begins a segment
pub record KeepsNewest (old now : Contents) (frames : ℕ) : Type 0 where
  pub closed : old.is_open ≡ false → frames ≡ 0 → now.is_open ≡ false
  pub begun : old.is_open ≡ false → 1 ≤ frames → length old.live < length now.live
  pub all : old.is_open ≡ false → (i : ℕ) → i < length old.live → slice_get now.live i ≡ slice_get old.live i

-- ---- pages written again

-- these blocks are these pages, each in a Base as it stands
pub record AreBases (c : Contents) (blocks : List Block) (pages : List ℕ) : Type 0 where
  pub bases : AllByRecursion (IsRewritten (blocks_of (counted c))) blocks
  pub lawful : AllByRecursion (IsBlock c.m) blocks
  pub told : map page_of blocks ≡ pages

-- a Base of the first of these pages would not fit after the frame
abbrev pub IsFull : Contents → Frame → List ℕ → Type 0
IsFull c x [] = Unit {0}
IsFull c x (p ∷ ps) =
    (leaf : Leaf) → content p (blocks_of (counted c)) ≡ Some leaf → c.f < length (frame_bytes x) + length (block_bytes (Base leaf))

-- each frame holds as many of these pages as fit, from the first on
abbrev pub AreFull : Contents → List Frame → List ℕ → Type 0
AreFull c [] ps = Unit {0}
AreFull c (x ∷ xs) ps = IsFull c x (drop (length x.blocks) ps) × AreFull c xs (drop (length x.blocks) ps)

-- the next frame, if it has a number, stands after this one
abbrev pub IsNextBehind : ℕ → Contents → Type 0
IsNextBehind last c = (n : ℕ) → c.next ≡ Some n → last < n

-- these frames were appended one after the other, each to the log as those before it left it: so a
-- segment is begun only if the current one has no room for the frame that comes next
abbrev pub AreAppended : Contents → List Frame → Contents → Type 0
AreAppended old [] new = new ≡ old
AreAppended old (x ∷ xs) new = (between : Contents) × AfterAppend old x true (Ok tt) between × AreAppended between xs new

-- so many frames were appended, all after this one, which hold these pages and nothing else; the
-- rest is still to come
pub record MovedBehind (last : ℕ) (old now : Contents) (pages rest : List ℕ) (frames : ℕ) : Type 0 where
  pub written : List Frame
  pub appends : AreAppended old written now
  pub counts : counted now ≡ counted old ++ written
  pub count : length written ≡ frames
  pub few : frames ≤ length pages
  pub holds : AreBases old (blocks_of written) pages
  pub full : AreFull old written (pages ++ rest)
  pub later : AllByRecursion (λ f. last < f.number) written
  pub next : IsNextBehind last now
  pub boxes_grew : AreLonger (boxes old) (boxes now)
  pub older : KeepsOlder old.live now.live
  pub newest : KeepsNewest old now frames
  pub works : now.is_failed ≡ false
  pub table : length now.pages ≡ length old.pages
  pub m : now.m ≡ old.m
  pub f : now.f ≡ old.f
  pub number : now.number ≡ old.number
  pub old_to : now.old_to ≡ old.old_to

-- those of the oldest segment
abbrev pub Moved : Contents → Contents → List ℕ → List ℕ → ℕ → Type 0
Moved old now pages rest frames = MovedBehind (oldest_last old old.live) old now pages rest frames

-- ---- refusals

-- the frame of the first of these pages, as many as fit
pub record NextFrame (c : Contents) (pages : List ℕ) (frame : Frame) : Type 0 where
  pub many : ℕ
  pub some : 0 < many
  pub inside : many ≤ length pages
  pub holds : AreBases c frame.blocks (take many pages)
  pub full : IsFull c frame (drop many pages)

-- that frame could not be appended, for this fault
pub record IsRefused (c : Contents) (pages : List ℕ) (fault : LogFault) : Type 0 where
  pub frame : Frame
  pub next : NextFrame c pages frame
  pub short : length (frame_bytes frame) ≤ c.f
  pub told : refusal c (length (frame_bytes frame)) true ≡ Some fault

-- a counted frame that touches one of these pages stands in the live segment of this index
abbrev pub HoldsSome : Contents → List ℕ → ℕ → Type 0
HoldsSome c [] at = ⊥
HoldsSome c (p ∷ ps) at = HoldsPage c p at ⊎ HoldsSome c ps at

-- a live segment of this lease has to be read for one of these pages
pub record IsReadFrom (c : Contents) (pages : List ℕ) (lease : ℕ) : Type 0 where
  pub at : ℕ
  pub holds : HoldsSome c pages at
  pub segment : Holding
  pub is : slice_get c.live at ≡ Some segment
  pub named : segment.lease ≡ lease

-- the box to which a frame of this length is appended: the first spare if a segment has to be begun,
-- else the newest segment
abbrev pub receiver : Contents → ℕ → Option Holding
receiver c len = if wants_segment c len then slice_get c.spares 0 else last_of c.live

-- the frame of the next of these pages is appended to the box of this lease
pub record IsWrittenTo (c : Contents) (pages : List ℕ) (lease : ℕ) : Type 0 where
  pub frame : Frame
  pub next : NextFrame c pages frame
  pub box : Holding
  pub is : receiver c (length (frame_bytes frame)) ≡ Some box
  pub named : box.lease ≡ lease

-- why a step is refused, memory aside: the frame that comes next has no room or no number, one of
-- the pages stands in a segment whose count is at its greatest, or a segment failed that had to be
-- read or appended to; and only if a page is left
abbrev pub IsReason : LogFault → Contents → List ℕ → Type 0
IsReason NoMemory c pages = Unit {0}
IsReason BadConfig c pages = ⊥
IsReason NoSegment c pages = IsRefused c pages NoSegment
IsReason (Device lease) c pages = (0 < length pages) × (IsReadFrom c pages lease ⊎ IsWrittenTo c pages lease)
IsReason Failed c pages = ⊥
IsReason Spent c pages =
    (0 < length pages) × ((c.next ≡ None) ⊎ (IsWornOut (HoldsSome c pages) c.live ⊎ IsRefused c pages Spent))
IsReason NoPage c pages = ⊥

-- what a failed call left: nothing, or a beginning of a header or of a frame of Bases, maybe all of it
pub record IsTornBase (old new : Contents) : Type 0 where
  pub frame : Frame
  pub pages : List ℕ
  pub holds : AreBases old frame.blocks pages
  pub stopped : appends.Stopped old frame new

-- a read or an append failed, and nothing more counts
pub record DeviceFailed (lease : ℕ) (old new : Contents) : Type 0 where
  pub left : (image new ≡ image old) ⊎ IsTornBase old new
  pub rose : Rose lease (boxes old) (boxes new)
  pub counts : counted new ≡ counted old
  pub same : IsSameLog old new

-- what a refused step leaves
abbrev pub Refused : LogFault → Contents → Contents → Type 0
Refused NoMemory old new = new ≡ old
Refused BadConfig old new = ⊥
Refused NoSegment old new = new ≡ old
Refused (Device lease) old new = DeviceFailed lease old new
Refused Failed old new = ⊥
Refused Spent old new = new ≡ old
Refused NoPage old new = ⊥

-- some of these pages were written again, then a step was refused
pub record StoppedBehind (last : ℕ) (old : Contents) (all : List ℕ) (fault : LogFault) (new : Contents) : Type 0 where
  pub then_log : Contents
  pub frames : ℕ
  pub done : List ℕ
  pub rest : List ℕ
  pub pages : all ≡ done ++ rest
  pub moved : MovedBehind last old then_log done rest frames
  pub refused : Refused fault then_log new
  pub reason : IsReason fault then_log rest

-- the pages of the oldest segment
abbrev pub Stopped : Contents → LogFault → Contents → Type 0
Stopped old fault new = StoppedBehind (oldest_last old old.live) old (old_pages old) fault new

-- what a refused cleaning leaves
abbrev pub Refuses : CleanFault → Contents → Contents → Type 0
Refuses NothingOld old new = (new ≡ old) × (length old.live < 2)
Refuses (Log NoMemory) old new = (2 ≤ length old.live) × (old.is_failed ≡ false) × Stopped old NoMemory new
Refuses (Log BadConfig) old new = ⊥
Refuses (Log NoSegment) old new = (2 ≤ length old.live) × (old.is_failed ≡ false) × Stopped old NoSegment new
Refuses (Log (Device lease)) old new = (2 ≤ length old.live) × (old.is_failed ≡ false) × Stopped old (Device lease) new
Refuses (Log Failed) old new = (new ≡ old) × (2 ≤ length old.live) × (old.is_failed ≡ true)
Refuses (Log Spent) old new = (2 ≤ length old.live) × (old.is_failed ≡ false) × Stopped old Spent new
Refuses (Log NoPage) old new = ⊥

-- ---- the end

-- all of them were written again, and the oldest segment was given up
pub record IsCleaned (old : Contents) (cleaned : Cleaned) (new : Contents) : Type 0 where
  pub two : 2 ≤ length old.live
  pub worked : old.is_failed ≡ false
  pub then_log : Contents
  pub moved : Moved old then_log (old_pages old) [] cleaned.frames
  pub sound : IsSound then_log
  pub given_up : new ≡ record then_log { live = drop 1 then_log.live; number = then_log.number + 1; frames = new.frames }
  pub counts : counted new ≡ drop (oldest_count old.live) (counted then_log)
  pub segment : cleaned.segment ≡ old.number
  pub lease : map (λ h. h.lease) (take 1 old.live) ≡ cleaned.lease ∷ []
  pub pages : cleaned.pages ≡ length (old_pages old)
  pub leases : roster new ≡ drop 1 (roster old)
