-- What a desk's contracts rest on: its list of flags, when a slot is looked for, taken or freed.
use Prim.Native.Nat.{zero, suc}
use Rattle.std.proofs.Common.{◌≡◌, ℕ, ◌+◌, ◌<◌, ◌≤◌, refl, sym, ap, ◌∙◌, arith, Bool, true, false, not, Option, Some, None, is_some, cond, ltb, List, [], ◌∷◌}
use Rattle.std.proofs.Common.{map, length, set, get_or, All, IsTrue}
use Rattle.std.proofs.lemmas.List.{length-map, map-set, get_or-map}
use Rattle.std.specs.List.{position, prefix_len}
use Rattle.std.proofs.lemmas.List.Quantifiers.{position-Some}
use borrow.Author.Tests.{ltb-false}
use Rattle.bw_device.specs.Slots.{out_count, OnlyFrees}

-- no more leases are out than there are
pub out_count_le : (slots : List Bool) → out_count slots ≤ length slots
out_count_le [] = omega arith
out_count_le (true ∷ slots) = omega (arith, out_count_le slots)
out_count_le (false ∷ slots) = omega (arith, out_count_le slots)

-- if a number that is out becomes free, one less is out
pub out_count-set : (slots : List Bool) (i : ℕ) (d : Bool) → i < length slots → get_or slots i d ≡ true
    → out_count (set slots i false) + 1 ≡ out_count slots
out_count-set [] i d lt out = absurd (omega (arith, lt))
out_count-set (true ∷ slots) zero d lt out = omega arith
out_count-set (false ∷ slots) zero d lt out = cc
out_count-set (true ∷ slots) (suc i) d lt out = omega (arith, out_count-set slots i d (omega arith) out)
out_count-set (false ∷ slots) (suc i) d lt out = omega (arith, out_count-set slots i d (omega arith) out)

-- if nothing changes, no number is added
pub only_frees_none : (slots : List Bool) → OnlyFrees slots slots
only_frees_none [] = tt
only_frees_none (p ∷ slots) = (λ e. e, only_frees_none slots)

-- nor if one more becomes free
pub only_frees_one_more : (old new : List Bool) (i : ℕ) → OnlyFrees old new → OnlyFrees old (set new i false)
only_frees_one_more [] [] i f = tt
only_frees_one_more (a ∷ old) (b ∷ new) zero f = (λ e. cc, f.1)
only_frees_one_more (a ∷ old) (b ∷ new) (suc i) f = (f.0, only_frees_one_more old new i f.1)
only_frees_one_more [] (b ∷ new) i f = absurd f
only_frees_one_more (a ∷ old) [] i f = absurd f

-- as many slots as flags stand before the first that is free
position_len : {X : Type 0} (slots : List (Option X)) → prefix_len (λ p. not (not (is_some p))) slots ≡ prefix_len (λ p. not (not p)) (map is_some slots)
position_len [] = refl
position_len (Some x ∷ slots) = ap (λ n. 1 + n) (position_len slots)
position_len (None ∷ slots) = refl

-- the first free slot is the first number that is not out
pub position_is_some : {X : Type 0} (items slots : List (Option X)) (flags : List Bool) → items ≡ slots → map is_some slots ≡ flags
    → position (λ p. not (is_some p)) items ≡ position not flags
position_is_some items slots flags same seen =
    let e = position_len slots in let f = length-map slots is_some in cc

-- if as many are out from the front on as there are, each is out
all_out_len : (slots : List Bool) → length slots ≤ prefix_len (λ p. not (not p)) slots → (k : ℕ) (d : Bool) → k < length slots → get_or slots k d ≡ true
all_out_len [] le k d lt = absurd (omega (arith, lt))
all_out_len (true ∷ slots) le zero d lt = refl
all_out_len (true ∷ slots) le (suc k) d lt = all_out_len slots (omega arith) k d (omega arith)
all_out_len (false ∷ slots) le k d lt = absurd (omega arith)

-- if no number is free, all are out
pub all_out : (slots : List Bool) → position not slots ≡ None → All IsTrue slots
all_out slots e = elim (ltb (prefix_len (λ p. not (not p)) slots) (length slots)) as
    (λ b. ltb (prefix_len (λ p. not (not p)) slots) (length slots) ≡ b → cond b (Some (prefix_len (λ p. not (not p)) slots)) None ≡ None
    → All IsTrue slots) [
      | true ↦ λ t n. cc
      | false ↦ λ t n. all_out_len slots (ltb-false _ _ t)
    ] refl e

-- if a number is free, not all are out
pub not_all_out : (slots : List Bool) (i : ℕ) → position not slots ≡ Some i → All IsTrue slots → ⊥
not_all_out slots i e all =
    let free = position-Some not slots i true e in
    let out : get_or slots i true ≡ true = all i true free.0 in
    let no : not (get_or slots i true) ≡ true = free.1 in
    let bad : not true ≡ true = ap not (sym out) ∙ no in cc

-- what a search of the slots found is the first number that is not out
pub first_free : {X : Type 0} (items slots : List (Option X)) (flags : List Bool) (r : Option ℕ) → items ≡ slots → map is_some slots ≡ flags
    → r ≡ position (λ p. not (is_some p)) items → position not flags ≡ r
first_free items slots flags r same seen found = sym (found ∙ position_is_some items slots flags same seen)

-- if a slot that had a lease is freed, one less is out
pub out_count-freed : {X : Type 0} (before after : List (Option X)) (i : ℕ) (slot : Option X) → i < length before → IsTrue (is_some (get_or before i slot))
    → after ≡ set before i None → out_count (map is_some after) + 1 ≡ out_count (map is_some before)
out_count-freed before after i slot lt out after_is =
    let within : i < length (map is_some before) = rw length-map lt in
    let was_out : get_or (map is_some before) i true ≡ true = get_or-map is_some before i slot true lt ∙ out in
    rw (after_is, map-set) (out_count-set (map is_some before) i true within was_out)

-- and no number is added
pub only_frees-freed : {X : Type 0} (old : List Bool) (before after : List (Option X)) (i : ℕ) → OnlyFrees old (map is_some before) → after ≡ set before i None
    → OnlyFrees old (map is_some after)
only_frees-freed old before after i f after_is = rw (after_is, map-set) (only_frees_one_more old (map is_some before) i f)
