-- How whole pages stand in frames, and frames in segments.

use Rattle.std.specs.Prelude.{ℕ, ◌+◌, ◌^◌, ◌≡◌, ◌≤◌, nat_le, Bool, true, false, if◌then◌else◌, List, [], ◌∷◌, ◌++◌, length}
use Rattle.bw_record.specs.Version.{latest}
use Rattle.bw_record.specs.declared.block.Block.{Block}
use Rattle.bw_record.specs.declared.block.Block.TheVariants.{Delta, Base, Split}
use Rattle.bw_codec.specs.Grammar.{frame_bytes, header_bytes, IsBlock}
use Rattle.bw_buffer.specs.Filling.{Filling, frame_of, size_of}

pub record Framed : Type 0 where
  -- the most pairs of a page, and the most bytes of a segment
  pub m : ℕ
  pub room : ℕ
  -- the bytes of each segment that takes no more, and of the one that takes frames
  pub closed : List (List ℕ)
  pub newest : List ℕ
  -- the frame that takes pages
  pub filling : Filling

-- a segment of this number in which nothing stands yet
abbrev pub header_of : ℕ → ℕ → ℕ → List ℕ
header_of m f number = header_bytes (record { version = latest; number = number; m = m; f = f })

-- a frame in which nothing stands yet
abbrev pub empty_frame : ℕ → ℕ → Filling
empty_frame number f = record { frame = number; limit = f; blocks = []; is_sealed = false }

-- nothing was written
abbrev pub unwritten : ℕ → ℕ → ℕ → Framed
unwritten m f room = record { m = m; room = room; closed = []; newest = header_of m f 1; filling = empty_frame 1 f }

-- the bytes of the frame as it is
abbrev pub bytes_in : Filling → List ℕ
bytes_in b = frame_bytes (frame_of b)

-- whether so many bytes more fit a segment
abbrev pub fits : ℕ → List ℕ → ℕ → Bool
fits room segment len = nat_le (length segment + len) room

-- the segments that take no more, once a frame is put
abbrev pub closed_for : Framed → List (List ℕ)
closed_for w = if fits w.room w.newest (length (bytes_in w.filling)) then w.closed else w.closed ++ w.newest ∷ []

-- the segment into which a frame is put: the newest one, or the next one if it does not fit
abbrev pub newest_for : Framed → List ℕ
newest_for w =
    if fits w.room w.newest (length (bytes_in w.filling)) then w.newest else header_of w.m w.filling.limit (length w.closed + 2)

-- the frame stands at the end of a segment, and the next one is empty
abbrev pub with_frame : Framed → Framed
with_frame w = record {
  m = w.m;
  room = w.room;
  closed = closed_for w;
  newest = newest_for w ++ bytes_in w.filling;
  filling = empty_frame (w.filling.frame + 1) w.filling.limit;
}

-- whether a block sets a page by itself
abbrev pub is_base : Block → Bool
is_base (Delta page back ops) = false
is_base (Base leaf) = true
is_base (Split page back upper) = false

-- a lawful Base
pub record IsPageBlock (m : ℕ) (block : Block) : Type 0 where
  pub lawful : IsBlock m block
  pub base : is_base block ≡ true

-- the frame with a page
abbrev pub filled : Filling → Block → Filling
filled b page = record b { blocks = b.blocks ++ page ∷ [] }

-- the next frame, if the one that there is would be too long with the page
abbrev pub framed_for : Block → Framed → Framed
framed_for page w = if nat_le (size_of (filled w.filling page)) w.filling.limit then w else with_frame w

abbrev pub with_page : Framed → Block → Framed
with_page w page = record {
  m = w.m;
  room = w.room;
  closed = (framed_for page w).closed;
  newest = (framed_for page w).newest;
  filling = filled (framed_for page w).filling page;
}

-- there is no number for a frame more
abbrev pub IsLastFrame : Framed → Type 0
IsLastFrame w = 2 ^ 64 ≤ w.filling.frame + 1
