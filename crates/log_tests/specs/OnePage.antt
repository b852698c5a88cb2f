-- A log of one page, as the walker keeps it beside the page that it has to be.

use Rattle.std.specs.Prelude.{ℕ, ◌≡◌, true, List, [], ◌∷◌}
use Rattle.bw_record.specs.declared.block.Block.{Block}
use Rattle.bw_record.specs.declared.block.Block.TheVariants.{Delta, Base}
use Rattle.bw_codec.specs.Grammar.{IsFrame}
use Rattle.bw_record.specs.declared.block.Frame.{Frame}
use Rattle.bw_record.specs.declared.block.Place.{Place}
use Rattle.bw_record.specs.declared.record.Record.{Record}
use Rattle.bw_record.specs.declared.record.Record.TheVariants.{Put}
use Rattle.bw_record.specs.declared.leaf.Leaf.{Leaf}
use Rattle.bw_buffer.specs.Filling.{Filling, frame_of}
use Rattle.bw_leaf.specs.Changed.{Pairs}
use Rattle.bw_page.specs.Standing.{Stand}
use Rattle.bw_log.specs.Contents.{Contents, IsSound, counted}
use Rattle.bw_log.specs.Places.{AreLinked}

-- page 1 with these pairs
abbrev pub leaf_with : Pairs → Leaf
leaf_with pairs = record { page = 1; low = []; pairs = pairs }

-- a put of one byte at one byte
abbrev pub put_of : ℕ → ℕ → Record
put_of key value = Put (key ∷ []) (value ∷ [])

-- the blocks of a first frame: an empty page 1, and its first changes
abbrev pub first_with : List Record → List Block
first_with ops = Base (leaf_with []) ∷ Delta 1 (record { frame = 1; index = 0 }) ops ∷ []

-- a frame of one block
abbrev pub frame_of_one : ℕ → Block → Frame
frame_of_one n block = record { number = n; blocks = block ∷ [] }

-- page 1 was given a value, after the block at a place
abbrev pub put_after : Place → ℕ → ℕ → Block
put_after back key value = Delta 1 back (put_of key value ∷ [])

-- the counted frames are this page and no other
pub record HoldsOne (c : Contents) (leaf : Leaf) : Type 0 where
  pub sound : IsSound c
  pub m : c.m ≡ 4
  pub f : c.f ≡ 65536
  pub is : leaf ≡ leaf_with leaf.pairs
  pub stands : Stand 4 (counted c) (leaf ∷ [])

-- a log of the tests' limits that counts these frames
pub record Counts (c : Contents) (all : List Frame) : Type 0 where
  pub sound : IsSound c
  pub frames : counted c ≡ all
  pub m : c.m ≡ 4
  pub f : c.f ≡ 65536

-- a sealed frame that may be the first, and leaves this page and no other
pub record Opens (b : Filling) (leaf : Leaf) : Type 0 where
  pub sealed : b.is_sealed ≡ true
  pub limit : b.limit ≡ 65536
  pub number : b.frame ≡ 1
  pub lawful : IsFrame 4 65536 (frame_of b)
  pub linked : AreLinked (frame_of b ∷ [])
  pub is : leaf ≡ leaf_with leaf.pairs
  pub stands : Stand 4 (frame_of b ∷ []) (leaf ∷ [])
