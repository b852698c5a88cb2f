-- A pair as it stands in memory: the key's length, its bytes, and the value's.

use Rattle.std.specs.Prelude.{ℕ, ◌+◌, ◌≤◌, List, [], ◌∷◌, length, take, drop}

abbrev pub paired : List ℕ → List ℕ × List ℕ
paired [] = ([], [])
paired (n ∷ rest) = (take n rest, drop n rest)

-- the lengths are those of a key and of a value
abbrev pub IsPaired : List ℕ → Type 0
IsPaired [] = ⊥
IsPaired (n ∷ rest) = (1 ≤ n) × (n ≤ 128) × (n ≤ length rest) × (length rest ≤ n + 512)
