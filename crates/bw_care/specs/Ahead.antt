-- Bases found ahead of a cleaning: stretches of bytes that are pages as they stand.

use Rattle.std.specs.Prelude.{ℕ, ◌+◌, ◌<◌, ◌≤◌, ◌≡◌, ◌⊎◌, Bool, true, false, Some, Option, IfSome, List, [], ◌∷◌, ◌++◌, length, take, drop, slice_get, slice_index, slice_set}
use Rattle.std.specs.BTreeMap as tree
use Rattle.std.specs.Ordering.{nat_cmp}
use Rattle.bw_codec.specs.Grammar.{block_bytes, frame_bytes, IsBase, IsFrame}
use Rattle.bw_record.specs.declared.block.Block.{Block}
use Rattle.bw_record.specs.declared.block.Block.TheVariants.{Base}
use Rattle.bw_record.specs.declared.block.Frame.{Frame}
use Rattle.bw_record.specs.declared.leaf.Leaf.{Leaf}
use Rattle.bw_buffer.specs.Filling.{Filling, size_of}
use Rattle.bw_device.specs.Holding.{Holding}
use Rattle.bw_leaf.specs.Forwards.{content, blocks_of}
use Rattle.bw_log.specs.Contents.{Contents, counted}
use Rattle.bw_log.specs.Segments.{segment_frames}
use Rattle.bw_log.specs.Walking.{StandsAt}
use Rattle.bw_log.specs.declared.places.FrameAt.{FrameAt}
use Rattle.bw_lines.specs.Reading.{leaf_in}
use Rattle.bw_care.specs.declared.copies.Spot.{Spot}
use Rattle.bw_lines.specs.declared.links.Line.{Line}

-- this leaf is the page, as the counted frames leave it
pub record PageRead (c : Contents) (p : ℕ) (leaf : Leaf) : Type 0 where
  pub page : leaf.page ≡ p
  pub stands : content leaf.page (blocks_of (counted c)) ≡ Some leaf
  pub lawful : IsBase c.m leaf

-- these bytes spell the page's Base
pub record IsBaseOf (c : Contents) (p : ℕ) (piece : List ℕ) : Type 0 where
  pub leaf : Leaf
  pub read : PageRead c p leaf
  pub spelled : piece ≡ block_bytes (Base leaf)

-- the page's Base was added to a frame in the making, or there was no room for it
abbrev pub Puts : Contents → ℕ → Filling → Bool → Filling → Type 0
Puts c p old true new = (leaf : Leaf) × PageRead c p leaf × (new ≡ record old { blocks = old.blocks ++ Base leaf ∷ [] })
Puts c p old false new =
    (leaf : Leaf) × PageRead c p leaf × (new ≡ old) × (old.limit < size_of old + length (block_bytes (Base leaf)))

-- ---- spots

-- a spot lies within these bytes
abbrev pub IsWithin : List ℕ → Spot → Type 0
IsWithin bytes s = s.at + s.len ≤ length bytes

-- the bytes of a spot
abbrev pub piece_at : List ℕ → Spot → List ℕ
piece_at bytes s = take s.len (drop s.at bytes)

-- a spot lies within these bytes, and its own are the page's Base, unless it has none
pub record Tells (c : Contents) (bytes : List ℕ) (p : ℕ) (s : Spot) : Type 0 where
  pub within : IsWithin bytes s
  pub holds : 0 < s.len → IsBaseOf c p (piece_at bytes s)

-- so does each of these spots for its page; a page after the last spot has none
abbrev pub AreSpots : Contents → List ℕ → List Spot → List ℕ → Type 0
AreSpots c bytes [] pages = Unit {0}
AreSpots c bytes (s ∷ ss) [] = Unit {0}
AreSpots c bytes (s ∷ ss) (p ∷ ps) = Tells c bytes p s × AreSpots c bytes ss ps

-- these are the bytes of the spot of an index, one or more
pub record IsPiece (bytes : List ℕ) (spots : List Spot) (i : ℕ) (piece : List ℕ) : Type 0 where
  pub spot : Spot
  pub there : slice_get spots i ≡ Some spot
  pub some : 0 < spot.len
  pub is : piece ≡ piece_at bytes spot

-- the spot was written at an index of the page, or nothing was
abbrev pub IsNoted : List ℕ → ℕ → Spot → List Spot → List Spot → Type 0
IsNoted pages page spot old new =
    ((i : ℕ) × (i < length pages) × (slice_index pages i ≡ page) × (new ≡ slice_set old i spot)) ⊎ (new ≡ old)

-- ---- the oldest segment

-- the bytes of the oldest segment
abbrev pub IsOldest : Contents → List ℕ → Type 0
IsOldest c bytes = IfSome (slice_get c.live 0) (λ h. bytes ≡ h.bytes)

-- a counted frame, if these bytes spell it
pub record IsLineOf (c : Contents) (bytes : List ℕ) (line : FrameAt) : Type 0 where
  pub index : ℕ
  pub frame : Frame
  pub stands : StandsAt (counted c) index frame
  pub limit : ℕ
  pub lawful : IsFrame c.m limit frame
  pub within : line.at + line.len ≤ length bytes
  pub spelled : take line.len (drop line.at bytes) ≡ frame_bytes frame
  pub numbered : line.number ≡ frame.number

-- ---- pages of the oldest segment, decoded

-- the frames of the first of these segments
abbrev pub oldest_frames : List Holding → List Frame
oldest_frames [] = []
oldest_frames (h ∷ hs) = segment_frames h.bytes

-- a leaf that a map has of a page is the page as these blocks leave it
abbrev pub Says : List Block → tree.BTreeMap ℕ Line → Type 0
Says blocks lines = (p : ℕ) (leaf : Leaf) → leaf_in (tree.get nat_cmp lines p) ≡ Some leaf → content p blocks ≡ Some leaf

-- no leaf but those that were there
abbrev pub IsPart : tree.BTreeMap ℕ Line → tree.BTreeMap ℕ Line → Type 0
IsPart old new = (p : ℕ) (leaf : Leaf) → leaf_in (tree.get nat_cmp new p) ≡ Some leaf → leaf_in (tree.get nat_cmp old p) ≡ Some leaf

-- this leaf was spelled as a Base after bytes, in the spot
pub record IsSpelled (o : Option Leaf) (old new : List ℕ) (s : Spot) : Type 0 where
  pub leaf : Leaf
  pub there : o ≡ Some leaf
  pub added : new ≡ old ++ block_bytes (Base leaf)
  pub at : s.at ≡ length old
  pub len : s.len ≡ length (block_bytes (Base leaf))
