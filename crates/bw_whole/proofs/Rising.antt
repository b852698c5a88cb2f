-- One more pair after pairs that ascend.

use Rattle.std.proofs.Common.{◌≡◌, ℕ, zero, suc, ◌-◌, ◌&&◌, Bool, true, false, Some, List, [], ◌∷◌, ◌++◌, length, refl, ap, ◌∙◌, arith, slice_get}
use Rattle.bw_record.specs.Keys.{is_below, ascends}
use Rattle.bw_whole.specs.Paging.{Pair}

and-true : (b : Bool) → (b && true) ≡ b
and-true true = refl
and-true false = refl

pub both : (a b : Bool) → (a && b) ≡ true → (a ≡ true) × (b ≡ true)
both true b h = (refl, h)
both false b h = absurd (cc)

-- they ascend, if its key is above the last one
pub ascends_more : (ps : List Pair) (n : ℕ) (last p : Pair) → n ≡ length ps - 1 → slice_get ps n ≡ Some last → ascends ps ≡ true
    → ascends (ps ++ p ∷ []) ≡ is_below last.0 p.0
ascends_more [] n last p e at h = absurd (cc)
ascends_more (q ∷ []) zero last p e at h =
    let same : q ≡ last = cc in
    and-true (is_below q.0 p.0) ∙ ap (λ (x : Pair). is_below x.0 p.0) same
ascends_more (q ∷ []) (suc n) last p e at h = absurd (omega arith)
ascends_more (q ∷ r ∷ rs) zero last p e at h = absurd (omega arith)
ascends_more (q ∷ r ∷ rs) (suc n) last p e at h =
    let two = both (is_below q.0 r.0) (ascends (r ∷ rs)) h in
    ap (λ b. b && ascends (r ∷ (rs ++ p ∷ []))) two.0 ∙ ascends_more (r ∷ rs) n last p (omega arith) at two.1
