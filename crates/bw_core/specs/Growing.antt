-- Counted frames with one in the making, and what they stand for.

use Rattle.std.specs.Prelude.{ℕ, nat_le, ◌-◌, ◌≡◌, ◌≤◌, List, [], ◌∷◌, ◌++◌, length, slice_get}
use Rattle.std.specs.List.{AllByRecursion, filter}
use Rattle.bw_codec.specs.Grammar.{IsBlock, IsPlace}
use Rattle.bw_record.specs.declared.leaf.Leaf.{Leaf}
use Rattle.bw_record.specs.declared.block.Place.{Place}
use Rattle.bw_record.specs.declared.block.Frame.{Frame}
use Rattle.bw_page.specs.Standing.{Stand}
use Rattle.bw_log.specs.Places.{place_of, AreLinked}

-- those of at most this number
abbrev pub frames_upto : ℕ → List Frame → List Frame
frames_upto number frames = filter (λ f. nat_le f.number number) frames

-- ---- frames with the one in the making

pub record Grown (m : ℕ) (counted : List Frame) (open_frame : Frame) (leaves : List Leaf) (newest : List Place) : Type 0 where
  pub stands : Stand m (counted ++ open_frame ∷ []) leaves
  pub linked : AreLinked (counted ++ open_frame ∷ [])
  pub count : length newest ≡ length leaves
  pub places : AllByRecursion IsPlace newest
  pub each : (p : ℕ) → 1 ≤ p → slice_get newest (p - 1) ≡ place_of p (counted ++ open_frame ∷ [])
  pub lawful : AllByRecursion (IsBlock m) open_frame.blocks
