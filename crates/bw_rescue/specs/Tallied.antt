-- A tally of pairs: a row of digests, one for each of them. Each goes on from the one before it.

use Rattle.std.specs.Prelude.{ℕ, ◌≡◌, ◌<◌, ◌^◌, ◌⊎◌, Bool, IsTrue, Option, Some, None, List, ◌∷◌, ◌++◌, length}
use Rattle.std.specs.List.{fold}
use Rattle.bw_digest.specs.Digest.{Collide}
use Rattle.bw_digest.specs.Sums.{Reach, no_sums, after, sum_of}
use Rattle.bw_digest.specs.Rows.{reach}
use Rattle.bw_digest.specs.declared.sum.Sum.{Sum}
use Rattle.bw_rescue.specs.declared.compared.Tally.{Tally}

abbrev pub Pair : Type 0
Pair = List ℕ × List ℕ

-- the bytes of a pair: the length of its key, the key and the value
abbrev pub piece : Pair → List ℕ
piece p = length p.0 ∷ (p.0 ++ p.1)

-- how far a row has come, and its last sum
abbrev pub Tallied : Type 0
Tallied = Reach × Option Sum

abbrev pub with_one : Tallied → Pair → Tallied
with_one t p = (after t.0 (sum_of t.0 (piece p)), Some (sum_of t.0 (piece p)))

abbrev pub tallied : List Pair → Tallied
tallied pairs = fold with_one (no_sums, None) pairs

-- this tally is one of these pairs
pub record IsTallyOf (pairs : List Pair) (t : Tally) : Type 0 where
  pub row : reach t.row ≡ (tallied pairs).0
  pub last : t.last ≡ (tallied pairs).1
  pub short : (tallied pairs).0.end < 2 ^ 64

-- two runs of bytes have one digest
abbrev pub SomeCollide : Type 0
SomeCollide = (a : List ℕ) × (b : List ℕ) × Collide a b

-- a tally of the same pairs is the same; if it is, the pairs are, or digests have failed
pub record Compares (same : Bool) (pairs others : List Pair) : Type 0 where
  pub if_equal : pairs ≡ others → IsTrue same
  pub only : IsTrue same → (pairs ≡ others) ⊎ SomeCollide
