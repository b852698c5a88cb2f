-- What is ready before boxes are moved.

use Rattle.std.specs.Prelude.{ℕ, ◌≡◌, ◌≤◌, nat_lt, true, false, Ok, List, [], ◌∷◌, length, map}
use Rattle.std.specs.FinMap as finite
use Rattle.bw_device.specs.Holding.{Holding}
use Rattle.bw_page.specs.Leaves.{union}
use Rattle.bw_page.specs.Seats.{numbers_from}
use Rattle.bw_page.specs.Standing.{Stand}
use Rattle.bw_log.specs.Segments.{following}
use Rattle.bw_log.specs.Places.{first_number}
use Rattle.bw_log.specs.Contents.{counted}
use Rattle.bw_log.specs.Contents as contents
use Rattle.bw_log.specs.Adopting.{adopted, next_in}
use Rattle.bw_log.specs.declared.places.FrameAt.{FrameAt}
use Rattle.bw_care.specs.Recovery.{Finding, recovery, limit_in, pairs_in, number_in, live_in, spares_in, last_number, too_large, ends_whole}
use Rattle.bw_care.specs.Scanned.{AreScans}
use Rattle.bw_care.specs.Surveying.{kind_seen, parts_seen}
use Rattle.bw_care.specs.Ordering.{IsOrder}
use Rattle.bw_care.specs.declared.scan.Scan.{Scan}
use Rattle.bw_care.specs.declared.steps.Survey.{Survey}
use Rattle.bw_care.specs.Parting.{parted}
use Rattle.bw_care.specs.declared.steps.Findings.{Findings}
use Rattle.bw_lines.specs.declared.links.ReadFault.{ReadFault}
use Rattle.bw_lines.specs.declared.links.ReadFault.TheVariants as read
use Rattle.bw_lines.specs.declared.cause.RecoverCause.{RecoverCause}
use Rattle.bw_lines.specs.declared.cause.RecoverCause.TheVariants.{NoMemory, BadConfig, Device, Spent, Empty, BadBytes, Gap, Mixed, BadLink, Unlawful}

abbrev pub planned : Findings → Finding
planned p = record { leaves = p.leaves.leaves; first = p.first; last = p.last; tail = p.tail; dropped = p.dropped }

-- ---- rooms

-- no box holds more than it has room for, nor has more room than a box may have
abbrev pub HasRoom : ℕ → Holding → Type 0
HasRoom room h = (room ≡ h.room) × (length h.bytes ≤ h.room) × (nat_lt 1073741824 h.room ≡ false)

-- these are the rooms of the first boxes
abbrev pub AreRooms : List Holding → List ℕ → Type 0
AreRooms hs [] = Unit {0}
AreRooms [] (room ∷ rooms) = ⊥
AreRooms (h ∷ hs) (room ∷ rooms) = HasRoom room h × AreRooms hs rooms

-- too many boxes, or one that is too large, unless memory ran out
abbrev pub RoomsStop : List Holding → RecoverCause → Type 0
RoomsStop hs NoMemory = Unit {0}
RoomsStop hs BadConfig = too_large hs ≡ true
RoomsStop hs (Device lease) = ⊥
RoomsStop hs Spent = ⊥
RoomsStop hs Empty = ⊥
RoomsStop hs (BadBytes segment at) = ⊥
RoomsStop hs Gap = ⊥
RoomsStop hs Mixed = ⊥
RoomsStop hs (BadLink page) = ⊥
RoomsStop hs (Unlawful page) = ⊥

-- ---- numbers of lines

abbrev pub first_line : List FrameAt → ℕ
first_line [] = 0
first_line (e ∷ es) = e.number

abbrev pub last_line : ℕ → List FrameAt → ℕ
last_line n [] = n
last_line n (e ∷ es) = last_line e.number es

-- ---- before the frames are read

-- what was scanned of the boxes, in the right order
pub record IsSurvey (boxes : List Holding) (s : Survey) : Type 0 where
  pub scans : List Scan
  pub are : AreScans boxes scans
  pub sized : too_large boxes ≡ false
  pub kinds : s.kinds.items ≡ map kind_seen scans
  pub dropped : s.dropped ≡ parts_seen scans
  pub order : IsOrder scans (map (λ h. h.room) boxes) s.order

-- ---- before boxes are moved

-- with these boxes nothing can be refused any more
pub record AreFindings (boxes : List Holding) (p : Findings) : Type 0 where
  pub found : recovery boxes ≡ Ok (planned p)
  pub kinds : parted boxes p.kinds.items ([], []) ≡ (map (λ h. (number_in h.bytes, h)) (live_in boxes), spares_in boxes)
  pub few : length (live_in boxes) ≤ length boxes
  pub each : length p.kinds.items ≡ length boxes
  pub sound : contents.IsSound (adopted (live_in boxes) (spares_in boxes) p.tables)
  pub stands : Stand p.leaves.m (counted (adopted (live_in boxes) (spares_in boxes) p.tables)) p.leaves.leaves
  pub begins : first_number (counted (adopted (live_in boxes) (spares_in boxes) p.tables)) ≡ p.first
  pub ends : last_number (counted (adopted (live_in boxes) (spares_in boxes) p.tables)) ≡ p.last
  pub opened : p.tables.is_open ≡ ends_whole (live_in boxes)
  pub follows : next_in p.tables.frames.items ≡ following p.last
  pub limit : p.leaves.m ≡ p.tables.m
  pub frame_limit : p.tables.f ≡ limit_in boxes
  pub page_limit : p.tables.m ≡ pairs_in boxes
  pub away : p.leaves.evicted ≡ numbers_from 1 (length p.leaves.leaves)
  pub pages : length p.leaves.leaves ≡ length p.tables.pages.items
  pub counts : p.pairs ≡ finite.len (union p.leaves.leaves)

abbrev pub as_cause : ReadFault → RecoverCause
as_cause read.NoMemory = NoMemory
as_cause (read.BadLink p) = BadLink p
