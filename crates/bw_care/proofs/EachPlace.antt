-- A list of places of which each is asked anew, one page after the other.

use Rattle.std.proofs.Common.{◌≡◌, ℕ, ◌+◌, ◌-◌, ◌≤◌, true, false, Option, List, refl, ap, ◌∙◌, arith}
use Rattle.std.specs.Prelude.{nat_le}
use Rattle.std.specs.List.{slice_get}
use Rattle.std.proofs.lemmas.Bool.{leb-true, leb-false}
use Rattle.bw_record.specs.declared.block.Place.{Place}

-- one page further
pub each_next : (old new : List Place) (look : ℕ → Option Place) (at : ℕ) → ((p : ℕ) → 1 ≤ p → p ≤ at → slice_get old (p - 1) ≡ look p)
    → slice_get new at ≡ look (at + 1) → ((i : ℕ) → (i ≡ at → ⊥) → slice_get new i ≡ slice_get old i)
    → (p : ℕ) → 1 ≤ p → p ≤ at + 1 → slice_get new (p - 1) ≡ look p
each_next old new look at before here others p from to =
    elim (nat_le p at) as (λ b. nat_le p at ≡ b → slice_get new (p - 1) ≡ look p) [
      | true ↦ λ e. (let le = leb-true _ _ e in others (p - 1) (λ same. absurd (omega arith)) ∙ before p from le)
      | false ↦ λ e. (let gt = leb-false _ _ e in let index : p - 1 ≡ at = omega arith in let page : at + 1 ≡ p = omega arith in
          ap (slice_get new) index ∙ here ∙ ap look page)
    ] refl
