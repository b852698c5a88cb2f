-- What the pages of frames are to the leaves for which frames stand: laws over the definitions
-- only.

use Rattle.std.specs.Prelude.{ℕ, ◌+◌, ◌≡◌, ◌≤◌, ◌⊎◌, true, false, None, Ok, Err, IfSome, List, [], ◌++◌, length, map, take}
use Rattle.std.specs.List.{AllByRecursion}
use Rattle.bw_codec.specs.Reading.{heading_of}
use Rattle.bw_codec.specs.declared.head.HeaderRead.TheVariants as heading
use Rattle.bw_record.specs.declared.block.Frame.{Frame}
use Rattle.bw_record.specs.declared.leaf.Leaf.{Leaf}
use Rattle.bw_device.specs.Holding.{Holding}
use Rattle.bw_leaf.specs.Forwards.{blocks_of}
use Rattle.bw_page.specs.Standing.{Stand}
use Rattle.bw_log.specs.Appends.{last_of, with_last}
use Rattle.bw_log.specs.Contents.{Contents, IsBounded, IsRoomy, IsSound, boxes, counted}
use Rattle.bw_log.specs.PageTable.{top_page}
use Rattle.bw_log.specs.Places.{first_number, AreLinked}
use Rattle.bw_log.specs.Segments.{Limits, frames_of, AreFrom, AreLive}
use Rattle.bw_lines.specs.Lawful.{HasLawful, is_at_fault, first_such, contents}
use Rattle.bw_care.specs.Recovery.{Finding, frames_in, last_number, live_in, pairs_in, parts_in, recovery, tails_of}
use Rattle.bw_care.specs.Scanning.{rest_in}
use Rattle.bw_lines.specs.declared.cause.RecoverCause.TheVariants.{Empty}

-- if no page is at fault, the frames stand for the leaves found
abbrev pub FoundStand : Type 0
FoundStand =
    (m : ℕ) (frames : List Frame) → AllByRecursion (HasLawful m) frames → 1 ≤ length frames
    → first_such (is_at_fault m (blocks_of frames)) 1 (top_page (blocks_of frames)) ≡ None
    → Stand m frames (contents (blocks_of frames) 1 (top_page (blocks_of frames)))

-- if frames stand for leaves, none of their pages is at fault
abbrev pub StandingUnfaulted : Type 0
StandingUnfaulted =
    (m : ℕ) (frames : List Frame) (leaves : List Leaf) → AllByRecursion (HasLawful m) frames → Stand m frames leaves
    → first_such (is_at_fault m (blocks_of frames)) 1 (length leaves) ≡ None

-- ---- segments, and boxes without one

-- a box without a segment: empty, with room for a header and a frame, or with a part of a header
abbrev pub IsLoose : ℕ → Holding → Type 0
IsLoose f h = ((h.bytes ≡ []) × (24 + f ≤ h.room)) ⊎ (heading_of h.bytes ≡ heading.Part)

-- segments numbered one after the other, whatever their tails, and such boxes
pub record AreSorted (l : Limits) (number : ℕ) (live loose : List Holding) : Type 0 where
  pub segments : AreLive l number (map (λ h. h.bytes) live)
  pub least : 65536 ≤ l.f
  pub others : AllByRecursion (IsLoose l.f) loose
  pub few : length live + length loose ≤ 4096
  pub bounds : AllByRecursion IsBounded (live ++ loose)

-- the whole frames of segments
abbrev pub frames_held : List Holding → List Frame
frames_held live = frames_of (map (λ h. h.bytes) live)

abbrev pub sorted_finding : List Holding → List Holding → List Leaf → Finding
sorted_finding live loose leaves = record {
  leaves = leaves;
  first = first_number (frames_held live);
  last = last_number (frames_held live);
  tail = tails_of live;
  dropped = length (parts_in loose);
}

-- if frames stand they are found, with their tails, and the boxes with a part of a header
abbrev pub SortedBoxesFound : Type 0
SortedBoxesFound =
    (l : Limits) (number : ℕ) (live loose : List Holding) (leaves : List Leaf) → AreSorted l number live loose
    → AreFrom (first_number (frames_held live)) (frames_held live) → AreLinked (frames_held live) → Stand l.m (frames_held live) leaves
    → recovery (live ++ loose) ≡ Ok (sorted_finding live loose leaves)

-- if there is no whole frame, this is the fault
abbrev pub SortedBoxesEmpty : Type 0
SortedBoxesEmpty =
    (l : Limits) (number : ℕ) (live loose : List Holding) → AreSorted l number live loose → frames_held live ≡ []
    → recovery (live ++ loose) ≡ Err Empty

-- ---- shortened segments

-- the newest segment is shortened to a length
abbrev pub shorten_newest : ℕ → List Holding → List Holding
shorten_newest n live = with_last (λ h. record h { bytes = take n h.bytes }) live

-- ---- a log's own boxes

-- these leaves, the first and the last frame that the log counts, so many bytes of tails, and no box dropped
abbrev pub own_finding : Contents → List Leaf → ℕ → Finding
own_finding c leaves tail = record {
  leaves = leaves;
  first = first_number (counted c);
  last = last_number (counted c);
  tail = tail;
  dropped = 0;
}

-- leaves, and the last frame's number
pub record IsFound (hs : List Holding) (frames : List Frame) (leaves : List Leaf) : Type 0 where
  pub finding : Finding
  pub found : recovery hs ≡ Ok finding
  pub leaves_are : finding.leaves ≡ leaves
  pub last : finding.last ≡ last_number frames

-- these boxes hold these whole frames: if they stand they are found, and if there is none, that is
-- the fault
abbrev pub FoundAs : ℕ → List Holding → List Frame → Type 0
FoundAs m hs frames =
    ((leaves : List Leaf) → Stand m frames leaves → IsFound hs frames leaves)
    × (frames ≡ [] → (recovery hs ≡ Err Empty) × (frames_in hs ≡ []))

-- the boxes of a sound log that has not failed, with its newest segment shortened to any length, at
-- 0 only if a spare may have its room
abbrev pub OwnShortenedFound : Type 0
OwnShortenedFound =
    (c : Contents) (n : ℕ) → IsSound c → c.is_failed ≡ false → (n ≡ 0 → IfSome (last_of c.live) (IsRoomy c.f))
    → FoundAs c.m (shorten_newest n c.live ++ c.spares) (frames_held (shorten_newest n c.live))

-- the boxes of a sound log that has failed, with whatever the failed append left
abbrev pub OwnStopFound : Type 0
OwnStopFound =
    (c : Contents) → IsSound c → c.is_failed ≡ true → FoundAs c.m (boxes c) (frames_held c.live)

-- the boxes of a sound log that has not failed, and counts a frame, are recovered to the leaves for which its frames stand
abbrev pub OwnBoxesFound : Type 0
OwnBoxesFound =
    (c : Contents) (leaves : List Leaf) → IsSound c → c.is_failed ≡ false → Stand c.m (counted c) leaves
    → recovery (boxes c) ≡ Ok (own_finding c leaves (tails_of c.live))

-- if a box of a sound log has a segment, recovery reads the log's own page limit
abbrev pub OwnLimitsRead : Type 0
OwnLimitsRead = (c : Contents) → IsSound c → 1 ≤ length (live_in (boxes c)) → pairs_in (boxes c) ≡ c.m

-- each segment ends with its last whole frame
abbrev pub EndWhole : List Holding → Type 0
EndWhole live = AllByRecursion (λ h. rest_in h.bytes ≡ []) live

-- .. and if each segment of the log ends with its last whole frame, no tail is found
abbrev pub WholeBoxesFound : Type 0
WholeBoxesFound =
    (c : Contents) (leaves : List Leaf) → IsSound c → c.is_failed ≡ false → Stand c.m (counted c) leaves → EndWhole c.live
    → recovery (boxes c) ≡ Ok (own_finding c leaves 0)
