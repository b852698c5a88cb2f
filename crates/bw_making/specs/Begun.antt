-- The frame in the making, as it begins.

use Rattle.std.specs.Prelude.{ℕ, ◌≡◌, ◌⊎◌, Some, None, false, [], ◌∷◌}
use Rattle.bw_record.specs.declared.block.Place.{Place}
use Rattle.bw_record.specs.declared.block.Block.TheVariants.{Base}
use Rattle.bw_record.specs.declared.block.Frame.{Frame}
use Rattle.bw_leaf.specs.Changed.{empty_leaf}
use Rattle.bw_buffer.specs.Filling.{Filling}
use Rattle.bw_log.specs.Segments.{following}

-- the place of the first page of a new store
abbrev pub first_place : Place
first_place = record { frame = 1; index = 0 }

abbrev pub first_frame : Frame
first_frame = record { number = 1; blocks = Base empty_leaf ∷ [] }

-- a frame 1 in the making that has the first page
abbrev pub first_making : ℕ → Filling
first_making f = record { frame = 1; limit = f; blocks = Base empty_leaf ∷ []; is_sealed = false }

-- an empty buffer for the frame after this one, if there is a number for it
pub record IsNext (making fresh : Filling) : Type 0 where
  pub limit : fresh.limit ≡ making.limit
  pub empty : fresh.blocks ≡ []
  pub unsealed : fresh.is_sealed ≡ false
  pub number : (following making.frame ≡ Some fresh.frame) ⊎ (following making.frame ≡ None)
