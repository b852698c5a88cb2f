-- A key of at most eight bytes is known by its head and its length.

use Rattle.std.proofs.Common.{◌≡◌, ℕ, zero, suc, ◌-◌, ◌<◌, ◌≤◌, List, [], ◌∷◌, ◌++◌, length, get_or, take, refl, sym, ap, ◌∙◌, subst, arith}
use Rattle.std.proofs.lemmas.List.{length-append, length-replicate, take_at}
use Rattle.std.proofs.lemmas.Nat.{be_bytes_8}
use Rattle.std.specs.Prelude.{replicate}
use Rattle.std.specs.Int.{w64, to_be_bytes, from_be_bytes}
use Rattle.bw_record.specs.Keys.{IsBytes}
use Rattle.bw_record.specs.Heads.{head}
use Rattle.bw_lows.specs.LowHeads.{Bytes}
use Rattle.bw_lows.specs.Packing.{eight_bytes}

abbrev zeros : ℕ → List ℕ
zeros m = replicate m zero

zero_at : (m i : ℕ) → get_or (zeros m) i 0 ≡ zero
zero_at zero i = refl
zero_at (suc m) zero = refl
zero_at (suc m) (suc i) = zero_at m i

-- zeros after a key are read as what it lacks
cell : (key : Bytes) (m i : ℕ) → get_or (key ++ zeros m) i 0 ≡ get_or key i 0
cell [] m i = zero_at m i
cell (x ∷ xs) m zero = refl
cell (x ∷ xs) m (suc i) = cell xs m i

head_in_cells : (key : Bytes) (m : ℕ) → head key ≡ from_be_bytes w64 (key ++ zeros m)
head_in_cells key m =
    omega (arith, cell key m 0, cell key m 1, cell key m 2, cell key m 3, cell key m 4, cell key m 5, cell key m 6, cell key m 7)

length-zeros : (m : ℕ) → length (zeros m) ≡ m
length-zeros m = length-replicate m zero

pub short_key : (key : Bytes) → IsBytes key → length key ≤ 8 → take (length key) (eight_bytes (head key)) ≡ key
unfolding eight_bytes
short_key key fits short =
    let m : ℕ = 8 - length key in
    let whole : to_be_bytes w64 (head key) ≡ key ++ zeros m = be_bytes_8 (key ++ zeros m) (head key)
    (omega (arith, length-append key (zeros m), length-zeros m))
    (λ i. subst (λ (b : ℕ). b < 256) (sym (cell key m i)) (fits i)) (head_in_cells key m) in
    ap (λ (bytes : List ℕ). take (length key) bytes) whole ∙ take_at key (zeros m) (length key) refl

-- the same from what the key's bytes gave
pub short_low : (key bytes : Bytes) (first : ℕ) → IsBytes key → length bytes ≤ 8 → bytes ≡ key → first ≡ head key
    → take (length bytes) (eight_bytes first) ≡ key
short_low key bytes first fits short is first_is =
    ap (λ (b : Bytes). take (length b) (eight_bytes first)) is
    ∙ ap (λ (x : ℕ). take (length key) (eight_bytes x)) first_is
    ∙ short_key key fits (subst (λ (b : Bytes). length b ≤ 8) is short)
