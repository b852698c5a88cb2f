-- Keys as bytes, and their order.

use Rattle.std.specs.Prelude.{ℕ, ◌<◌, ◌≤◌, ◌&&◌, Bool, true, List, [], ◌∷◌, get_or, length}
use Rattle.std.specs.Ordering.{nat_cmp, is_lt}
use Rattle.std.specs.Cmp.Lexicographic.{slice_cmp}
use Rattle.std.specs.declared.cmp.Ordering.{Ordering}
use Rattle.bw_record.specs.Version.{latest, key_limit}

-- keys are ordered by bytes, a beginning before its continuation
abbrev pub order : List ℕ → List ℕ → Ordering
order = slice_cmp nat_cmp

abbrev pub is_below : List ℕ → List ℕ → Bool
is_below a b = is_lt (slice_cmp nat_cmp a b)

-- each key is below the next
abbrev pub ascends : List (List ℕ × List ℕ) → Bool
ascends [] = true
ascends (p ∷ []) = true
ascends (p ∷ q ∷ rest) = is_below p.0 q.0 && ascends (q ∷ rest)

-- the length of a key in a format
abbrev pub IsKeyIn : ℕ → List ℕ → Type 0
IsKeyIn v k = (1 ≤ length k) × (length k ≤ key_limit v)

-- the length of a key
abbrev pub IsKey : List ℕ → Type 0
IsKey k = IsKeyIn latest k

-- each of these numbers is a byte
abbrev pub IsBytes : List ℕ → Type 0
IsBytes bytes = (i : ℕ) → get_or bytes i 0 < 256
