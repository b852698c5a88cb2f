-- What contracts see of seats: the leaves, and which of them are evicted from memory.

use Rattle.std.specs.Prelude.{ℕ, zero, suc, ◌+◌, Bool, true, false, ◌==◌, List, [], ◌∷◌, if◌then◌else◌}
use Rattle.bw_record.specs.declared.leaf.Leaf.{Leaf}

-- one leaf, and whether it is evicted
pub record Seated : Type 0 where
  pub leaf : Leaf
  pub is_evicted : Bool

-- some leaves, the pages that are evicted, ascending, and how many more leaves have room
pub record Seating : Type 0 where
  pub items : List Leaf
  pub evicted : List ℕ
  pub room : ℕ

-- whether a page is among some
abbrev pub is_among : ℕ → List ℕ → Bool
is_among p [] = false
is_among p (x ∷ xs) = if x == p then true else is_among p xs

-- n numbers from p on
abbrev pub numbers_from : ℕ → ℕ → List ℕ
numbers_from p zero = []
numbers_from p (suc n) = p ∷ numbers_from (p + 1) n
