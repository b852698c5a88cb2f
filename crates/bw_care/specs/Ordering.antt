-- What was read of boxes, in the order of the segments' numbers.

use Rattle.std.specs.Prelude.{ℕ, ◌+◌, ◌==◌, ◌&&◌, ◌||◌, not, nat_lt, ◌≡◌, Bool, true, false, Option, Some, None, List, [], ◌∷◌, ◌++◌, map}
use Rattle.std.specs.Prelude.{slice_get}
use Rattle.bw_codec.specs.declared.head.Header.{Header}
use Rattle.bw_device.specs.Holding.{Holding}
use Rattle.bw_log.specs.Places.{or_else}
use Rattle.bw_care.specs.Recovery.{pairs_of, limit_of, are_mixed, in_order, when}
use Rattle.bw_care.specs.Surveying.{tails_found}
use Rattle.bw_care.specs.declared.order.Order.{Order}
use Rattle.bw_lines.specs.declared.cause.RecoverCause.{RecoverCause}
use Rattle.bw_lines.specs.declared.cause.RecoverCause.TheVariants.{NoMemory, BadConfig, Device, Spent, Empty, BadBytes, Gap, Mixed, BadLink, Unlawful}
use Rattle.bw_care.specs.Scanned.{IsScan}
use Rattle.bw_care.specs.declared.scan.Scan.{Scan}
use Rattle.bw_care.specs.declared.scan.Scan.TheVariants.{Bare, Part, Live}
use Rattle.bw_log.specs.declared.places.FrameAt.{FrameAt}
use Rattle.bw_care.specs.declared.order.Found.{Found}

-- the segments among what was read, the first of which is the box at a position
abbrev pub lives_from : ℕ → List Scan → List Found
lives_from i [] = []
lives_from i (Bare ∷ ss) = lives_from (i + 1) ss
lives_from i (Part ∷ ss) = lives_from (i + 1) ss
lives_from i (Live header b ∷ ss) = record { index = i; header = header; behind = b } ∷ lives_from (i + 1) ss

abbrev pub lives : List Scan → List Found
lives ss = lives_from 0 ss

abbrev pub number_found : Found → ℕ
number_found r = r.header.number

abbrev pub sorted : List Scan → List Found
sorted ss = in_order number_found (lives ss)

-- the segments' headers, in the order of the boxes
abbrev pub headers_of : List Scan → List Header
headers_of [] = []
headers_of (Bare ∷ ss) = headers_of ss
headers_of (Part ∷ ss) = headers_of ss
headers_of (Live header b ∷ ss) = header ∷ headers_of ss

-- an empty box of less room
abbrev pub is_narrow : ℕ → Scan → ℕ → Bool
is_narrow least Bare room = nat_lt room least
is_narrow least Part room = false
is_narrow least (Live header b) room = false

abbrev pub any_narrow : ℕ → List Scan → List ℕ → Bool
any_narrow least [] rooms = false
any_narrow least (s ∷ ss) [] = false
any_narrow least (s ∷ ss) (room ∷ rooms) = is_narrow least s room || any_narrow least ss rooms

-- each number is the one after the one before it
abbrev pub follow_from : Option ℕ → List ℕ → Bool
follow_from last [] = true
follow_from None (n ∷ ns) = follow_from (Some n) ns
follow_from (Some k) (n ∷ ns) = (k + 1 == n) && follow_from (Some n) ns

abbrev pub may_follow : Option ℕ → ℕ → Bool
may_follow None n = true
may_follow (Some k) n = k + 1 == n

-- these were read of these segments, which stand among the boxes at the positions given
abbrev pub AreFound : List Holding → List Holding → List Found → Type 0
AreFound boxes [] [] = Unit {0}
AreFound boxes [] (r ∷ rs) = ⊥
AreFound boxes (h ∷ hs) [] = ⊥
AreFound boxes (h ∷ hs) (r ∷ rs) = IsScan h.bytes (Live r.header r.behind) × AreFound boxes hs rs × (slice_get boxes r.index ≡ Some h)

-- a line, in the segment at a position
abbrev pub moved_to : ℕ → FrameAt → FrameAt
moved_to segment e = record e { segment = segment }

abbrev pub lines_found : ℕ → List Found → List FrameAt
lines_found segment [] = []
lines_found segment (r ∷ rs) = map (moved_to segment) r.behind.lines.items ++ lines_found (segment + 1) rs

abbrev pub line_number : FrameAt → ℕ
line_number e = e.number

abbrev pub has_none : List FrameAt → Bool
has_none [] = true
has_none (e ∷ es) = false

-- ---- the first fault of the order

abbrev pub order_fault : List Scan → List ℕ → Option RecoverCause
order_fault ss rooms =
    or_else (when (are_mixed (headers_of ss)) Mixed)
    (or_else (when (not (follow_from None (map number_found (sorted ss)) && follow_from None (map line_number (lines_found 0 (sorted ss))))) Gap)
    (or_else (when (has_none (lines_found 0 (sorted ss))) Empty) (when (any_narrow (24 + limit_of (headers_of ss)) ss rooms) BadConfig)))

abbrev pub oldest_number : List Found → ℕ
oldest_number [] = 0
oldest_number (r ∷ rs) = r.header.number

-- whether the last one has version 2 and no tail
abbrev pub is_clean : Found → Bool
is_clean r = (r.header.version == 2) && (r.behind.tail == 0)

abbrev pub is_clean_from : Bool → List Found → Bool
is_clean_from clean [] = clean
is_clean_from clean (r ∷ rs) = is_clean_from (is_clean r) rs

-- segments whose order is right
pub record IsOrder (ss : List Scan) (rooms : List ℕ) (o : Order) : Type 0 where
  pub none : order_fault ss rooms ≡ None
  pub m : o.m ≡ pairs_of (headers_of ss)
  pub f : o.f ≡ limit_of (headers_of ss)
  pub versions : o.versions.items ≡ map (λ r. r.header.version) (sorted ss)
  pub number : o.number ≡ oldest_number (sorted ss)
  pub clean : o.is_open ≡ is_clean_from false (sorted ss)
  pub tail : o.tail ≡ tails_found (sorted ss)
  pub boxes : o.boxes.items ≡ map (λ r. r.index) (sorted ss)
  pub lines : o.lines.items ≡ lines_found 0 (sorted ss)

-- this is the fault, unless memory ran out
abbrev pub CauseIs : Option RecoverCause → RecoverCause → Type 0
CauseIs fault NoMemory = Unit {0}
CauseIs fault BadConfig = fault ≡ Some BadConfig
CauseIs fault Empty = fault ≡ Some Empty
CauseIs fault Gap = fault ≡ Some Gap
CauseIs fault Mixed = fault ≡ Some Mixed
CauseIs fault (Device lease) = ⊥
CauseIs fault Spent = ⊥
CauseIs fault (BadBytes segment at) = ⊥
CauseIs fault (BadLink page) = ⊥
CauseIs fault (Unlawful page) = ⊥
