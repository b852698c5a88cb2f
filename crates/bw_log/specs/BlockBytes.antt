-- The bytes of one block among those of a frame.

use Rattle.std.specs.Prelude.{ℕ, ◌+◌, ◌≡◌, ◌≤◌, Some, List, ◌∷◌, ◌++◌, length, take, drop, slice_get}
use Rattle.bw_codec.specs.Grammar.{block_bytes_in, IsBlockIn}
use Rattle.bw_record.specs.declared.block.Block.{Block}
use Rattle.bw_record.specs.declared.block.Frame.{Frame}
use Rattle.bw_device.specs.Holding.{Holding}
use Rattle.bw_log.specs.Segments.{version_at}
use Rattle.bw_log.specs.Contents.{Contents}
use Rattle.bw_log.specs.Walking.{StandsAt}
use Rattle.bw_log.specs.declared.blocks.Spot.{Spot}
use Rattle.bw_log.specs.declared.places.FrameAt.{FrameAt}

-- these bytes begin with a lawful block
pub record IsSpelled (v m : ℕ) (bytes : List ℕ) (block : Block) : Type 0 where
  pub lawful : IsBlockIn v m block
  pub rest : List ℕ
  pub is : bytes ≡ block_bytes_in v block ++ rest

abbrev pub SpellsOne : ℕ → ℕ → List ℕ → Type 0
SpellsOne v m bytes = (block : Block) × IsSpelled v m bytes block

-- so many bytes of a segment from an offset on are a lawful block
pub record IsSpelledAt (v m : ℕ) (live : List Holding) (at from len : ℕ) (block : Block) : Type 0 where
  pub segment : Holding
  pub there : slice_get live at ≡ Some segment
  pub within : from + len ≤ length segment.bytes
  pub lawful : IsBlockIn v m block
  pub is : take len (drop from segment.bytes) ≡ block_bytes_in v block

abbrev pub IsOne : ℕ → ℕ → List Holding → ℕ → ℕ → ℕ → Type 0
IsOne v m live at from len = (block : Block) × IsSpelledAt v m live at from len block

-- the block of an index in the frame of an index
pub record BlockAt (frames : List Frame) (i index : ℕ) (block : Block) : Type 0 where
  pub frame : Frame
  pub stands : StandsAt frames i frame
  pub front : List Block
  pub back : List Block
  pub split : frame.blocks ≡ front ++ block ∷ back
  pub many : length front ≡ index

abbrev pub HasIndex : List Frame → ℕ → ℕ → Type 0
HasIndex frames i index = (block : Block) × BlockAt frames i index block

-- the counted frame of an index stands here
pub record IsSpot (c : Contents) (i : ℕ) (spot : Spot) : Type 0 where
  pub line : FrameAt
  pub told : slice_get c.frames i ≡ Some line
  pub at : line.segment ≡ c.number + spot.at
  pub from : spot.from ≡ line.at
  pub len : spot.len ≡ line.len
  pub version : spot.version ≡ version_at c.old_to line.segment
