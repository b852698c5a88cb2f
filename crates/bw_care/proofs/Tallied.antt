-- Bytes of segments, summed one after the other.

use Rattle.std.proofs.Common.{◌≡◌, ℕ, zero, suc, ◌+◌, ◌≤◌, MatchOption, Option, Some, None, List, [], ◌∷◌, length, take, refl, sym, ap, arith}
use Rattle.std.specs.List.{slice_get}
use Rattle.bw_device.specs.Holding.{Holding}
use Rattle.bw_care.specs.Tallies.{bytes_of, length_at, up}

pub bytes_next : (hs : List Holding) (i : ℕ) → bytes_of (take (suc i) hs) ≡ bytes_of (take i hs) + length_at hs i
bytes_next [] zero = refl
bytes_next [] (suc i) = refl
bytes_next (h ∷ hs) zero = omega arith
bytes_next (h ∷ hs) (suc i) = (let rest = bytes_next hs i in omega arith)

pub bytes_none : (hs : List Holding) → bytes_of (take 0 hs) ≡ 0
bytes_none [] = refl
bytes_none (h ∷ hs) = refl

pub bytes_all : (hs : List Holding) (i : ℕ) → length hs ≤ i → bytes_of (take i hs) ≡ bytes_of hs
bytes_all [] zero le = refl
bytes_all [] (suc i) le = refl
bytes_all (h ∷ hs) zero le = absurd (omega arith)
bytes_all (h ∷ hs) (suc i) le = (let rest = bytes_all hs i (omega arith) in omega arith)

-- a sum that stays at the greatest number may be made step by step
pub up_more : (a b total more : ℕ) → total ≡ up 0 a → b ≡ a + more → up total more ≡ up 0 b
up_more a b total more e f = omega arith

-- what is said of a segment is its length
pub length_told : (number i : ℕ) (hs : List Holding) (r : Option (ℕ × ℕ × ℕ)) (x : ℕ × ℕ × ℕ)
    → MatchOption (slice_get hs i) (r ≡ None) (λ h. r ≡ Some (number, h.lease, length h.bytes)) → r ≡ Some x → x.2 ≡ length_at hs i
length_told number i [] r x h is = absurd cc
length_told number zero (h ∷ hs) r x e is = (let same : (number, h.lease, length h.bytes) ≡ x = cc in ap (λ (t : ℕ × ℕ × ℕ). t.2) (sym same))
length_told number (suc i) (h ∷ hs) r x e is = length_told number i hs r x e is

pub length_none : (number i : ℕ) (hs : List Holding) (r : Option (ℕ × ℕ × ℕ))
    → MatchOption (slice_get hs i) (r ≡ None) (λ h. r ≡ Some (number, h.lease, length h.bytes)) → r ≡ None → 0 ≡ length_at hs i
length_none number i [] r h is = refl
length_none number zero (h ∷ hs) r e is = absurd cc
length_none number (suc i) (h ∷ hs) r e is = length_none number i hs r e is
