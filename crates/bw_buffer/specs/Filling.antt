-- What a buffer is to its callers: blocks, never bytes.

use Rattle.std.specs.Prelude.{ℕ, ◌+◌, ◌≡◌, ◌≤◌, Bool, List, length}
use Rattle.std.specs.List.{AllByRecursion}
use Rattle.bw_codec.specs.Grammar.{block_bytes, body_bytes, IsBlock, IsFrame}
use Rattle.bw_record.specs.declared.leaf.Leaf.{Leaf}
use Rattle.bw_record.specs.declared.block.Block.{Block}
use Rattle.bw_record.specs.declared.block.Block.TheVariants.{Base}
use Rattle.bw_record.specs.declared.block.Frame.{Frame}
use Rattle.bw_record.specs.declared.block.Place.{Place}
use Rattle.bw_buffer.specs.Joining.{added}

pub record Filling : Type 0 where
  -- the frame's number
  pub frame : ℕ
  -- the most bytes that the frame may have
  pub limit : ℕ
  -- all blocks added, in order, each Delta joined to the last block of its page if that is a Delta
  pub blocks : List Block
  pub is_sealed : Bool

-- the frame as it is if sealed now
abbrev pub frame_of : Filling → Frame
frame_of b = record { number = b.frame; blocks = b.blocks }

-- the bytes of that frame
abbrev pub size_of : Filling → ℕ
size_of b = 20 + length (body_bytes b.blocks)

-- a filling with more blocks
abbrev pub with_all : Filling → List Block → Filling
with_all b more = record b { blocks = added b.blocks more }

-- the place of an index in the frame
abbrev pub place_at : Filling → ℕ → Place
place_at b i = record { frame = b.frame; index = i }

-- one or more blocks that are lawful if pages have at most m pairs are a frame that is lawful there
abbrev pub IsLawfulFrame : Filling → Type 0
IsLawfulFrame b = (m : ℕ) → 1 ≤ length b.blocks → AllByRecursion (IsBlock m) b.blocks → IsFrame m b.limit (frame_of b)

-- bytes are those of a lawful Base of this page
abbrev pub SpellsBase : ℕ → List ℕ → Type 0
SpellsBase page bytes = (leaf : Leaf) × (leaf.page ≡ page) × IsBlock 32 (Base leaf) × (bytes ≡ block_bytes (Base leaf))

-- bytes are those of a lawful block
abbrev pub SpellsBlock : List ℕ → Type 0
SpellsBlock bytes = (block : Block) × IsBlock 32 block × (bytes ≡ block_bytes block)
