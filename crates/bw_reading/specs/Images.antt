-- An image: all pairs of a map as bytes.

use Rattle.std.specs.Prelude.{◌≡◌, ℕ, zero, suc, ◌+◌, ◌*◌, ◌≤◌, IsTrue, false, Option, None, List, [], ◌∷◌, ◌++◌, drop, length, slice_get, option_map}
use Rattle.std.specs.List.{flat_map, AllByRecursion}
use Rattle.std.specs.FinMap as finite
use Rattle.std.specs.FinMap.Entries.{find}
use Rattle.bw_record.specs.Keys.{is_below, ascends}
use Rattle.bw_record.specs.declared.leaf.Leaf.{Leaf}
use Rattle.bw_leaf.specs.Changed.{Bytes, Pairs, Map, order}
use Rattle.bw_page.specs.Leaves.{union}
use Rattle.bw_walks.specs.Back.{IsGreatest}
use Rattle.bw_reading.specs.Calls.{over, pair_bytes, pair_at}
use Rattle.bw_reading.specs.Handed.{boxes_in, AreWhole}
use Rattle.bw_reading.specs.Pages.{ArePagesOf}

-- pairs as an image, one after the other
abbrev pub image_bytes : Pairs → Bytes
image_bytes pairs = flat_map pair_bytes pairs

-- all pairs of a map, in the order of their keys, each once: those of the keys that are not empty
pub record AreAll (map : Map) (pairs : Pairs) : Type 0 where
  pub ascends : IsTrue (ascends pairs)
  pub named : AllByRecursion (λ p. is_below p.0 (0 ∷ []) ≡ false) pairs
  pub all : (q : Bytes) → is_below q (0 ∷ []) ≡ false → finite.get map q ≡ find order q pairs

-- an image of all pairs of a map, of which there are so many
pub record IsImage (map : Map) (image : Bytes) (count : ℕ) : Type 0 where
  pub pairs : Pairs
  pub whole : AreAll map pairs
  pub spelled : image ≡ image_bytes pairs
  pub counted : count ≡ length pairs

-- an image of all pairs of the pages that recovery finds in the segments that C hands in, or of the one empty page
pub record IsImageOfPages (bytes sums : Bytes) (parts : List ℕ) (image : Bytes) (count : ℕ) : Type 0 where
  pub whole : AreWhole bytes sums parts
  pub pages : List Leaf
  pub found : ArePagesOf (boxes_in bytes parts) pages
  pub its : IsImage (union pages) image count

-- what is written in room of C's, and what is said of it, is such an image
pub record IsTold (bytes sums : Bytes) (parts : List ℕ) (room written : Bytes) (needed count : ℕ) : Type 0 where
  pub image : Bytes
  pub its : IsImageOfPages bytes sums parts image count
  pub there : written ≡ over room image
  pub long : needed ≡ length image

-- ---- where pairs begin

-- where the pair ends that bytes begin with, which stand at a place: there, if they begin with none
abbrev pub end_in : Bytes → ℕ → ℕ
end_in [] at = at
end_in (a ∷ []) at = at
end_in (a ∷ b ∷ []) at = at
end_in (a ∷ b ∷ c ∷ rest) at = at + (3 + a + b + 256 * c)

-- where the pair ends that begins at a place
abbrev pub end_at : Bytes → ℕ → ℕ
end_at image at = end_in (drop at image) at

-- where so many pairs begin, one after the other, the first of them at a place
abbrev pub starts_from : Bytes → ℕ → ℕ → List ℕ
starts_from image zero at = []
starts_from image (suc n) at = at ∷ starts_from image n (end_at image at)

-- where the first pairs of an image begin, which is one of all pairs of a map: other bytes may stand after it
pub record IsIndexOf (map : Map) (image : Bytes) (starts : List ℕ) : Type 0 where
  pub whole : Bytes
  pub rest : Bytes
  pub count : ℕ
  pub its : IsImage map whole count
  pub begins : image ≡ whole ++ rest
  pub notes : starts ≡ starts_from image (length starts) 0
  pub within : length starts ≤ count

-- where all pairs of an image begin
pub record IsWholeIndexOf (map : Map) (image : Bytes) (starts : List ℕ) : Type 0 where
  pub index : IsIndexOf map image starts
  pub each : length starts ≡ index.count

-- the pair of this number, where there is one
abbrev pub pair_of : Bytes → List ℕ → ℕ → Option (Bytes × Bytes)
pair_of image starts n = option_map (pair_at image) (slice_get starts n)

-- the pair before the one of this number, where there is one
abbrev pub pair_before : Bytes → List ℕ → ℕ → Option (Bytes × Bytes)
pair_before image starts zero = None
pair_before image starts (suc n) = pair_of image starts n

-- the pair of a map with the greatest key below this one, of those that are not empty, where there is one
abbrev pub IsLastBefore : Map → Bytes → Option (Bytes × Bytes) → Type 0
IsLastBefore map key pair = IsGreatest (λ q. finite.get map q) (λ q. (is_below q (0 ∷ []) ≡ false) × IsTrue (is_below q key)) pair
