-- What a segment's bytes hold.

use Rattle.std.specs.Prelude.{ℕ, zero, suc, ◌+◌, ◌^◌, ◌≡◌, nat_lt, nat_le, Bool, true, if◌then◌else◌, Option, Some, None, List, [], ◌∷◌, ◌++◌, length, drop}
use Rattle.std.specs.List.{fold, flat_map}
use Rattle.bw_record.specs.Version.{latest}
use Rattle.bw_codec.specs.Grammar.{frame_bytes_in, IsWhole}
use Rattle.bw_codec.specs.Reading.{front_at, heading_of, version_in}
use Rattle.bw_record.specs.declared.block.Frame.{Frame}
use Rattle.bw_codec.specs.declared.head.Header.{Header}
use Rattle.bw_codec.specs.declared.head.FrameRead.TheVariants.{Whole, Tail}
use Rattle.bw_codec.specs.declared.head.HeaderRead.TheVariants as heading
use Rattle.bw_log.specs.Starts.{starts_of}
use Rattle.bw_log.specs.declared.places.FrameAt.{FrameAt}

-- ---- the whole frames at the front of bytes, and what follows them

abbrev pub with_first : Frame → List Frame × List ℕ → List Frame × List ℕ
with_first frame read = (frame ∷ read.0, read.1)

-- at most so many frames of a format
unfoldable pub frames_at : ℕ → ℕ → ℕ → ℕ → List ℕ → List Frame × List ℕ
frames_at zero v m f bytes = ([], bytes)
frames_at (suc n) v m f bytes = elim (front_at v m f bytes) as (λ _. List Frame × List ℕ) [
  | None ↦ ([], bytes)
  | Some read ↦ elim read as (λ _. List Frame × List ℕ) [
    | Whole frame used ↦ with_first frame (frames_at n v m f (drop used bytes))
    | Tail ↦ ([], bytes)
  ]
]

-- the whole frames of a segment, in the format that its header names: none if it has no header
unfoldable pub segment_frames : List ℕ → List Frame
segment_frames bytes = elim (heading_of bytes) as (λ _. List Frame) [
  | heading.Whole h ↦ (frames_at (length bytes) h.version h.m h.f (drop 24 bytes)).0
  | heading.Part ↦ []
  | heading.Bad ↦ []
]

-- all whole frames of segments
abbrev pub frames_of : List (List ℕ) → List Frame
frames_of segments = flat_map segment_frames segments

-- ---- headers

-- the header that is written
abbrev pub header_with : ℕ → ℕ → ℕ → Header
header_with number m f = record { version = latest; number = number; m = m; f = f }

-- what the headers of a log say beside their numbers
pub record Limits : Type 0 where
  -- the most pairs of a page
  pub m : ℕ
  -- the most bytes of a frame, and of one of version 1
  pub f : ℕ
  pub old_f : ℕ
  -- the segments up to this number have version 1, those after it version 2
  pub old_to : ℕ

abbrev pub version_at : ℕ → ℕ → ℕ
version_at old_to number = if nat_le number old_to then 1 else latest

abbrev pub limit_at : Limits → ℕ → ℕ
limit_at l number = if nat_le number l.old_to then l.old_f else l.f

-- the header of the segment of this number
abbrev pub header_in : Limits → ℕ → Header
header_in l number = record { version = version_at l.old_to number; number = number; m = l.m; f = limit_at l number }

-- ---- live segments

-- a header with the segment's number, frames and a tail
pub record IsLive (l : Limits) (number : ℕ) (bytes : List ℕ) : Type 0 where
  pub torn : List ℕ
  pub whole : IsWhole bytes (header_in l number) (segment_frames bytes) torn

-- segments numbered one after the other
abbrev pub AreLive : Limits → ℕ → List (List ℕ) → Type 0
AreLive l number [] = Unit {0}
AreLive l number (b ∷ bs) = IsLive l number b × AreLive l (number + 1) bs

-- a segment of version 2 without a tail
abbrev pub IsClean : ℕ → ℕ → ℕ → List ℕ → Type 0
IsClean m f number bytes = IsWhole bytes (header_with number m f) (segment_frames bytes) []

-- there is a newest segment, of version 2, and it has no tail
abbrev pub IsCleanLast : ℕ → ℕ → ℕ → List (List ℕ) → Type 0
IsCleanLast m f number [] = ⊥
IsCleanLast m f number (b ∷ []) = IsClean m f number b
IsCleanLast m f number (b ∷ d ∷ bs) = IsCleanLast m f (number + 1) (d ∷ bs)

-- ---- frames and where they stand

abbrev pub entry_of : ℕ → ℕ → ℕ → Frame → FrameAt
entry_of v segment at f =
    record { number = f.number; segment = segment; at = at; len = length (frame_bytes_in v f); starts = starts_of v f }

-- the frames of one segment of a format, from an offset on
abbrev pub entries_from : ℕ → ℕ → ℕ → List Frame → List (FrameAt × Frame)
entries_from v segment at [] = []
entries_from v segment at (f ∷ fs) =
    (entry_of v segment at f, f) ∷ entries_from v segment (at + length (frame_bytes_in v f)) fs

-- those of segments numbered one after the other
abbrev pub entries : ℕ → List (List ℕ) → List (FrameAt × Frame)
entries number [] = []
entries number (b ∷ bs) = entries_from (version_in b) number 24 (segment_frames b) ++ entries (number + 1) bs

-- ---- numbers of frames

-- the number after this one, if there is one
abbrev pub following : ℕ → Option ℕ
following n = if nat_lt (n + 1) (2 ^ 64) then Some (n + 1) else None

-- the number after the last frame's
abbrev pub next_of : List Frame → Option ℕ
next_of frames = fold (λ was f. following f.number) (Some 1) frames

abbrev pub is_before_next : Option ℕ → ℕ → Bool
is_before_next None n = true
is_before_next (Some next) n = nat_lt n next

-- frames numbered one after the other
abbrev pub AreFrom : ℕ → List Frame → Type 0
AreFrom n [] = Unit {0}
AreFrom n (f ∷ fs) = (f.number ≡ n) × AreFrom (n + 1) fs
