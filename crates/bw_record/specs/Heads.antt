-- Heads of keys, beside which a search seldom reads whole keys.

use Rattle.std.specs.Prelude.{ℕ, ◌≡◌, ◌⊎◌, List, [], ◌∷◌, ◌++◌, map, drop, length}
use Rattle.std.specs.List.{AllByRecursion}
use Rattle.std.specs.Bool.{IsTrue}
use Rattle.byteorder.specs.Endian.{big_number}
use Rattle.bw_record.specs.Keys.{is_below, IsBytes}

-- the first eight bytes of a key as one number, the highest first; for those that it lacks stand zeros
abbrev pub head : List ℕ → ℕ
head key = big_number 8 key

abbrev pub PairList : Type 0
PairList = List (List ℕ × List ℕ)

-- the key begins with these bytes
abbrev pub BeginsWith : List ℕ → List ℕ → Type 0
BeginsWith shared key = key ≡ shared ++ drop (length shared) key

-- each key begins with these bytes, and bytes stand after them
abbrev pub Share : List ℕ → PairList → Type 0
Share shared pairs = AllByRecursion (λ p. BeginsWith shared p.0 × IsBytes (drop (length shared) p.0)) pairs

-- the heads of keys, taken after so many bytes
abbrev pub heads : ℕ → PairList → List ℕ
heads skip pairs = map (λ p. head (drop skip p.0)) pairs

-- the row beside pairs: the head of each key, taken after the bytes that all share, or none
abbrev pub IsRow : List ℕ → List ℕ → PairList → Type 0
IsRow shared row pairs = (row ≡ []) ⊎ (Share shared pairs × (row ≡ heads (length shared) pairs))

-- the key of each of these pairs is below another
abbrev pub AreBelow : List ℕ → PairList → Type 0
AreBelow key pairs = AllByRecursion (λ p. IsTrue (is_below p.0 key)) pairs

-- there are pairs, and the key of the first is above another
abbrev pub BeginAbove : List ℕ → PairList → Type 0
BeginAbove key [] = ⊥
BeginAbove key (p ∷ ps) = IsTrue (is_below key p.0)
