-- What a scan of boxes finds: the first fault of its steps, or the pages of all whole frames.

use Rattle.std.specs.Prelude.{ℕ, ◌+◌, ◌==◌, ◌&&◌, ◌||◌, not, nat_lt, Bool, true, false, if◌then◌else◌, Option, Some, None, Result, Ok, Err, List, []}
use Rattle.std.specs.Prelude.{◌∷◌, length, map}
use Rattle.std.specs.List.{fold, filter, list_any}
use Rattle.bw_codec.specs.Reading.{header_in}
use Rattle.bw_record.specs.declared.leaf.Leaf.{Leaf}
use Rattle.bw_record.specs.declared.block.Block.{Block}
use Rattle.bw_record.specs.declared.block.Frame.{Frame}
use Rattle.bw_codec.specs.declared.head.Header.{Header}
use Rattle.bw_leaf.specs.Forwards.{blocks_of}
use Rattle.bw_device.specs.Holding.{Holding}
use Rattle.bw_log.specs.Places.{or_else, all_placed, bad_link, first_number}
use Rattle.bw_log.specs.Segments.{frames_of}
use Rattle.bw_log.specs.PageTable.{top_page}
use Rattle.bw_care.specs.Scanning.{has_header, has_part, is_bare, rest_in, fault_in}
use Rattle.bw_lines.specs.Lawful.{is_at_fault, first_such, contents}
use Rattle.bw_lines.specs.declared.cause.RecoverCause.{RecoverCause}
use Rattle.bw_lines.specs.declared.cause.RecoverCause.TheVariants.{BadConfig, Empty, BadBytes, Gap, Mixed, BadLink, Unlawful}

-- ---- the boxes, sorted out

-- one more of things that are in the order of their numbers
abbrev pub placed_by : {A : Type 0} → (A → ℕ) → A → List A → List A
placed_by number x [] = x ∷ []
placed_by number x (y ∷ ys) = if nat_lt (number x) (number y) then x ∷ y ∷ ys else y ∷ placed_by number x ys

abbrev pub in_order : {A : Type 0} → (A → ℕ) → List A → List A
in_order number xs = fold (λ sorted x. placed_by number x sorted) [] xs

-- the number in a segment's header
abbrev pub number_in : List ℕ → ℕ
number_in bytes = (header_in bytes).number

-- boxes with a header
abbrev pub segments_in : List Holding → List Holding
segments_in boxes = filter (λ h. has_header h.bytes) boxes

-- boxes with a header, in the order of their numbers
abbrev pub live_in : List Holding → List Holding
live_in boxes = in_order (λ h. number_in h.bytes) (segments_in boxes)

abbrev pub spares_in : List Holding → List Holding
spares_in boxes = filter (λ h. is_bare h.bytes) boxes

abbrev pub parts_in : List Holding → List Holding
parts_in boxes = filter (λ h. has_part h.bytes) boxes

abbrev pub frames_in : List Holding → List Frame
frames_in boxes = frames_of (map (λ h. h.bytes) (live_in boxes))

-- the segments' headers, in the order of the boxes
abbrev pub headers_in : List Holding → List Header
headers_in boxes = map (λ h. header_in h.bytes) (segments_in boxes)

-- the page limit of the first of them, which is that of all if none clashes
abbrev pub pairs_of : List Header → ℕ
pairs_of [] = 0
pairs_of (h ∷ hs) = h.m

abbrev pub pairs_in : List Holding → ℕ
pairs_in boxes = pairs_of (headers_in boxes)

-- the frame limit of the first of version 2, else the least that a log may have
abbrev pub limit_of : List Header → ℕ
limit_of [] = 65536
limit_of (h ∷ hs) = if h.version == 2 then h.f else limit_of hs

abbrev pub limit_in : List Holding → ℕ
limit_in boxes = limit_of (headers_in boxes)

-- the bytes of all tails
abbrev pub tails_of : List Holding → ℕ
tails_of hs = fold (λ n h. n + length (rest_in h.bytes)) 0 hs

-- whether the last of these segments has version 2 and no tail
abbrev pub takes_frames : List ℕ → Bool
takes_frames bytes = ((header_in bytes).version == 2) && is_bare (rest_in bytes)

abbrev pub ends_whole_from : Bool → List Holding → Bool
ends_whole_from whole [] = whole
ends_whole_from whole (h ∷ hs) = ends_whole_from (takes_frames h.bytes) hs

abbrev pub ends_whole : List Holding → Bool
ends_whole hs = ends_whole_from false hs

-- ---- the steps, each with its fault, if it finds one

abbrev pub when : Bool → RecoverCause → Option RecoverCause
when true cause = Some cause
when false cause = None

-- too many boxes, or a capacity above the limit
abbrev pub too_large : List Holding → Bool
too_large boxes = nat_lt 4096 (length boxes) || list_any (λ h. nat_lt 1073741824 h.room) boxes

-- the first box with bytes that cannot be read
abbrev pub bytes_fault_by : ℕ → Option ℕ → Option RecoverCause → Option RecoverCause
bytes_fault_by i None others = others
bytes_fault_by i (Some at) others = Some (BadBytes i at)

abbrev pub bytes_fault : ℕ → List Holding → Option RecoverCause
bytes_fault i [] = None
bytes_fault i (h ∷ hs) = bytes_fault_by i (fault_in h.bytes) (bytes_fault (i + 1) hs)

-- headers differ in their page limit, or in the frame limit of one version, or a new one is numbered below an old one
abbrev pub clash : Header → Header → Bool
clash a b =
    not (a.m == b.m)
    || ((a.version == b.version) && not (a.f == b.f))
    || ((a.version == 2) && (b.version == 1) && nat_lt a.number b.number)

abbrev pub are_mixed : List Header → Bool
are_mixed headers = list_any (λ a. list_any (clash a) headers) headers

abbrev pub is_mixed : List Holding → Bool
is_mixed boxes = are_mixed (headers_in boxes)

-- numbers that follow one after the other
abbrev pub follow_on : List ℕ → Bool
follow_on [] = true
follow_on (n ∷ []) = true
follow_on (n ∷ k ∷ ns) = (n + 1 == k) && follow_on (k ∷ ns)

-- the numbers of segments, or those of frames, have a gap
abbrev pub has_gap : List Holding → Bool
has_gap boxes = not (follow_on (map (λ h. number_in h.bytes) (live_in boxes)) && follow_on (map (λ f. f.number) (frames_in boxes)))

abbrev pub is_none : List Frame → Bool
is_none [] = true
is_none (f ∷ fs) = false

-- a spare without room for a header and a frame
abbrev pub is_small : List Holding → Bool
is_small boxes = list_any (λ h. nat_lt h.room (24 + limit_in boxes)) (spares_in boxes)

abbrev pub link_fault_by : Option ℕ → Option RecoverCause
link_fault_by None = None
link_fault_by (Some p) = Some (BadLink p)

abbrev pub link_fault : List Frame → Option RecoverCause
link_fault frames = link_fault_by (bad_link (first_number frames) [] (all_placed frames))

abbrev pub page_fault_by : Option ℕ → Option RecoverCause
page_fault_by None = None
page_fault_by (Some p) = Some (Unlawful p)

abbrev pub page_fault : ℕ → List Block → Option RecoverCause
page_fault m blocks = page_fault_by (first_such (is_at_fault m blocks) 1 (top_page blocks))

-- the first fault
abbrev pub fault_of_frames : ℕ → List Frame → Option RecoverCause
fault_of_frames m frames = or_else (link_fault frames) (page_fault m (blocks_of frames))

abbrev pub fault_of_order : List Holding → Option RecoverCause
fault_of_order boxes = or_else (when (is_mixed boxes) Mixed) (or_else (when (has_gap boxes) Gap) (when (is_none (frames_in boxes)) Empty))

abbrev pub first_fault : List Holding → Option RecoverCause
first_fault boxes =
    or_else (when (too_large boxes) BadConfig)
    (or_else (bytes_fault 0 boxes)
    (or_else (fault_of_order boxes)
    (or_else (when (is_small boxes) BadConfig) (fault_of_frames (pairs_in boxes) (frames_in boxes)))))

-- ---- what is found

pub record Finding : Type 0 where
  pub leaves : List Leaf
  -- the numbers of the first and the last frame
  pub first : ℕ
  pub last : ℕ
  -- how many bytes all tails have
  pub tail : ℕ
  -- how many boxes hold a part of a header
  pub dropped : ℕ

abbrev pub last_number : List Frame → ℕ
last_number frames = fold (λ n f. f.number) 0 frames

abbrev pub found_in : List Holding → Finding
found_in boxes = record {
  leaves = contents (blocks_of (frames_in boxes)) 1 (top_page (blocks_of (frames_in boxes)));
  first = first_number (frames_in boxes);
  last = last_number (frames_in boxes);
  tail = tails_of (live_in boxes);
  dropped = length (parts_in boxes);
}

abbrev pub answer : Option RecoverCause → Finding → Result Finding RecoverCause
answer None finding = Ok finding
answer (Some cause) finding = Err cause

-- what recovery says of boxes: only from their bytes and their room
abbrev pub recovery : List Holding → Result Finding RecoverCause
recovery boxes = answer (first_fault boxes) (found_in boxes)
