-- Where keys stand to the last one that was read.

use Rattle.std.specs.Prelude.{ℕ, ◌≡◌, ◌&&◌, Bool, true, false, not, List, [], ◌∷◌, Option, Some, None}
use Rattle.bw_record.specs.Keys.{is_below}

-- a key is not above the last one
abbrev pub is_upto : Option (List ℕ) → List ℕ → Bool
is_upto None key = false
is_upto (Some last) key = not (is_below last key)

-- none of these is
abbrev pub are_upto : Option (List ℕ) → List (List ℕ) → Bool
are_upto last [] = true
are_upto last (key ∷ keys) = is_upto last key && are_upto last keys

-- a key comes after the last one, and is the last one from now on
abbrev pub Follows : Option (List ℕ) → Option (List ℕ) → List ℕ → Type 0
Follows None now key = ⊥
Follows (Some last) now key = (is_below last key ≡ true) × (now ≡ Some key)
