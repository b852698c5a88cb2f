-- Walking back over the blocks of a page.

use Rattle.std.specs.Prelude.{ℕ, ◌≡◌, ◌==◌, true, if◌then◌else◌, Option, Some, None, List, [], ◌∷◌, ◌++◌, length, map, reverse}
use Rattle.std.specs.List.{fold}
use Rattle.bw_record.specs.Touch.{touches}
use Rattle.bw_record.specs.declared.leaf.Leaf.{Leaf}
use Rattle.bw_record.specs.declared.block.Place.{Place}
use Rattle.bw_record.specs.declared.block.Block.{Block}
use Rattle.bw_record.specs.declared.block.Block.TheVariants.{Delta, Base, Split}
use Rattle.bw_record.specs.declared.block.Frame.{Frame}
use Rattle.bw_leaf.specs.Forwards.{after, content}

-- where the first block that touches a page links back to
abbrev pub first_back : ℕ → List Block → Option Place
first_back p [] = None
first_back p (Delta page back ops ∷ bs) = if page == p then Some back else first_back p bs
first_back p (Base leaf ∷ bs) = if leaf.page == p then None else first_back p bs
first_back p (Split page back upper ∷ bs) =
    if page == p then Some back else if upper.page == p then None else first_back p bs

-- a frame of a list and its index
pub record StandsAt (frames : List Frame) (i : ℕ) (frame : Frame) : Type 0 where
  pub before : List Frame
  pub beyond : List Frame
  pub split : frames ≡ before ++ frame ∷ beyond
  pub index : length before ≡ i

-- the blocks without their places
abbrev pub bodies : List (Place × Block) → List Block
bodies xs = map (λ x. x.1) xs

-- a block of a list and its place
pub record PlacedAt (all : List (Place × Block)) (place : Place) (block : Block) : Type 0 where
  pub before : List (Place × Block)
  pub beyond : List (Place × Block)
  pub split : all ≡ before ++ (place, block) ∷ beyond

-- some block stands at this place
abbrev pub IsPlace : List (Place × Block) → Place → Type 0
IsPlace all place = (block : Block) × PlacedAt all place block

-- a walk back over the blocks of a page: these were read, the newest first, and the one at this place is next
pub record IsWalk (p : ℕ) (all : List (Place × Block)) (at : Place) (newer : List Block) : Type 0 where
  pub block : Block
  pub stands : PlacedAt all at block
  pub touched : touches p block ≡ true
  pub leaf : Leaf
  pub set : content p (bodies stands.before ++ block ∷ []) ≡ Some leaf
  pub reads : content p (bodies all) ≡ fold (after p) (content p (bodies stands.before ++ block ∷ [])) (reverse newer)
