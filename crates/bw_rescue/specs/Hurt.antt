-- The pieces of a file, of which each has its digest or is hurt.

use Rattle.std.specs.Prelude.{ℕ, ◌≡◌, ◌<◌, ◌≤◌, ◌==◌, ◌&&◌, ◌||◌, not, Bool, false, Option, Some, None, List, [], ◌∷◌, length, map, take}
use Rattle.std.specs.List.{list_any, AllByRecursion}
use Rattle.bw_digest.specs.Digest.{digest}
use Rattle.bw_digest.specs.Sums.{Reach, no_sums, after, piece_to, sums_in}
use Rattle.bw_digest.specs.declared.sum.Sum.{Sum}
use Rattle.bw_rescue.specs.declared.pieces.Piece.{Piece}
use Rattle.bw_rescue.specs.declared.pieces.Pieces.{Pieces}

-- ---- as the sums beside a file say

-- whether a piece from one byte to another has not its digest, among those after a row
abbrev pub is_hurt_after : List ℕ → Reach → List Sum → ℕ → ℕ → Bool
is_hurt_after bytes row [] from to = false
is_hurt_after bytes row (s ∷ ss) from to =
    (row.end == from && s.end == to && not (digest (piece_to bytes row s.end) == s.digest)) || is_hurt_after bytes (after row s) ss from to

abbrev pub is_hurt : List ℕ → List ℕ → ℕ → ℕ → Bool
is_hurt bytes sums from to = is_hurt_after bytes no_sums (sums_in (length bytes) sums) from to

-- ---- as a walk has them

-- a piece, be frames of it taken or not
pub record Cut : Type 0 where
  pub from : ℕ
  pub to : ℕ
  pub fits : Bool

abbrev pub cut_of : Piece → Cut
cut_of p = record { from = p.from; to = p.to; fits = p.fits }

abbrev pub cuts : Pieces → List Cut
cuts p = map cut_of p.rows.items

-- a piece from one byte to another that is hurt
abbrev pub spans : ℕ → ℕ → Cut → Bool
spans from to c = c.from == from && c.to == to && not c.fits

abbrev pub is_hurt_in : List Cut → ℕ → ℕ → Bool
is_hurt_in cs from to = list_any (spans from to) cs

abbrev pub is_hurt_at : Option Piece → ℕ → ℕ → Bool
is_hurt_at None from to = false
is_hurt_at (Some p) from to = spans from to (cut_of p)

-- each begins where the one before it ends, and has a byte
abbrev pub Follow : ℕ → List Cut → Type 0
Follow low [] = Unit {0}
Follow low (c ∷ cs) = (c.from ≡ low) × (low < c.to) × Follow c.to cs

abbrev pub last_end : ℕ → List Cut → ℕ
last_end low [] = low
last_end low (c ∷ cs) = last_end c.to cs

-- the first of them end before an offset
abbrev pub ArePassed : ℕ → ℕ → List Cut → Type 0
ArePassed at n cs = AllByRecursion (λ (c : Cut). c.to ≤ at) (take n cs)

-- pieces in which no offset is looked at any more that is below this one
pub record AreOpen (at : ℕ) (p : Pieces) : Type 0 where
  pub follow : Follow 0 (cuts p)
  pub passed : ArePassed at p.passed (cuts p)

-- all that sums say of the bytes of a file
pub record ArePieces (bytes sums : List ℕ) (p : Pieces) : Type 0 where
  pub begun : AreOpen 0 p
  pub hurt : (from to : ℕ) → is_hurt_in (cuts p) from to ≡ is_hurt bytes sums from to
