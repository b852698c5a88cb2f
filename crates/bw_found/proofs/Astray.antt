-- Keys of a page, one after the other.

use Rattle.std.proofs.Common.{◌≡◌, ℕ, zero, suc, ◌+◌, ◌<◌, ◌||◌, Bool, [], ◌∷◌, length, drop, get_or, refl, sym, ap, ◌∙◌, arith}
use Rattle.std.specs.List.{list_any}
use Rattle.bw_leaf.specs.Changed.{Bytes, Pairs}

step : (test : Bytes → Bool) (ps : Pairs) (at : ℕ) (d : Bytes × Bytes) → at < length ps
    → list_any (λ p. test p.0) (drop at ps) ≡ (test (get_or ps at d).0 || list_any (λ p. test p.0) (drop (suc at) ps))
step test [] at d h = absurd (omega arith)
step test (p ∷ ps) zero d h = refl
step test (p ∷ ps) (suc at) d h = step test ps at d (omega arith)

-- whether one of the keys from an index on passes
pub any_from : (test : Bytes → Bool) (ps : Pairs) (at : ℕ) (key : Bytes) (t : Bool) → at < length ps → ((d : Bytes × Bytes) → key ≡ (get_or ps at d).0)
    → t ≡ test key → list_any (λ p. test p.0) (drop at ps) ≡ (t || list_any (λ p. test p.0) (drop (at + 1) ps))
any_from test ps at key t h named is =
    let one : at + 1 ≡ suc at = omega arith in
    step test ps at ([], []) h
    ∙ (λ i. sym (is ∙ ap test (named ([], []))) i || list_any (λ p. test p.0) (drop (sym one i) ps))
