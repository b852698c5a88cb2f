-- The first pair of a page at or above a key, and those after it, stand where a search for the key
-- ends.

use Rattle.std.proofs.Common.{◌≡◌, ℕ, suc, ◌+◌, ◌-◌, true, false, cond, if◌then◌else◌, Some, None, [], ◌∷◌, take, drop, length, Result, Ok, Err}
use Rattle.std.proofs.Common.{refl, sym, ap, ◌∙◌, subst, arith, one-add}
use Rattle.std.specs.Prelude.{slice_get, min}
use Rattle.std.specs.List.{AllByRecursion as All}
use Rattle.std.specs.Ordering.{is_gt, eq_by_cmp}
use Rattle.std.specs.FinMap.Entries.{find, by_order}
use Rattle.std.specs.declared.cmp.Ordering.TheVariants.{Less, Equal, Greater}
use Rattle.std.proofs.lemmas.List.{length-drop, take_min}
use Rattle.bw_record.specs.Keys.{is_below}
use Rattle.bw_record.proofs.Order.{Below, UpTo, itself, greater_is_below, below-upto, below-trans, below_apart, above_apart}
use Rattle.bw_leaf.specs.Changed.{Bytes, Pairs, order}
use Rattle.bw_leaf.specs.Above.{pair_above, pairs_above}
use Rattle.bw_leaf.specs.Seek.{seek_of, passed, end_of}
use Rattle.bw_leaf.proofs.Sorted.{all-map, Rises, find-none}

pub end_passed : (s : Result ℕ ℕ) → end_of (passed 1 s) ≡ suc (end_of s)
end_passed (Ok at) = one-add at
end_passed (Err at) = one-add at

-- the pair at the end of a search is the first at or above the key
pub pair_sought : (key : Bytes) (ps : Pairs) → slice_get ps (end_of (seek_of key ps)) ≡ pair_above key ps
pair_sought key [] = refl
pair_sought key (p ∷ ps) =
    elim (order key p.0) as (λ o. order key p.0 ≡ o → slice_get (p ∷ ps) (end_of (by_order o (Err 0) (Ok 0) (passed 1 (seek_of key ps)))) ≡
    pair_above key (p ∷ ps)) [
      | Less ↦ λ e. let not : is_below p.0 key ≡ false = sym (greater_is_below key p.0) ∙ ap is_gt e in rw not refl
      | Equal ↦ λ e. let not : is_below p.0 key ≡ false = sym (greater_is_below key p.0) ∙ ap is_gt e in rw not refl
      | Greater ↦ λ e. let is : is_below p.0 key ≡ true = sym (greater_is_below key p.0) ∙ ap is_gt e in
          rw is (ap (slice_get (p ∷ ps)) (end_passed (seek_of key ps)) ∙ pair_sought key ps)
    ] refl

-- what is said of each pair is said of the first one
pub above-all : (P : Bytes × Bytes → Type 0) (key : Bytes) (ps : Pairs) (p : Bytes × Bytes) → pair_above key ps ≡ Some p → All P ps → P p
above-all P key [] p e h = absurd (cc)
above-all P key (x ∷ xs) p e h =
    elim (is_below x.0 key) as (λ b. (if b then pair_above key xs else Some x) ≡ Some p → P p) [
      | true ↦ λ s. above-all P key xs p s h.1
      | false ↦ λ s. subst P (let same : x ≡ p = cc in same) h.0
    ] e

-- it is not below the key
pub above_from : (key : Bytes) (ps : Pairs) (p : Bytes × Bytes) → pair_above key ps ≡ Some p → UpTo key p.0
above_from key [] p e = absurd (cc)
above_from key (x ∷ xs) p e =
    elim (is_below x.0 key) as (λ b. is_below x.0 key ≡ b → (if b then pair_above key xs else Some x) ≡ Some p → UpTo key p.0) [
      | true ↦ λ t s. above_from key xs p s
      | false ↦ λ t s. subst (λ (y : Bytes × Bytes). UpTo key y.0) (let same : x ≡ p = cc in same) t
    ] refl e

pub skipped : (q : Bytes) (x : Bytes × Bytes) (xs : Pairs) → Below x.0 q → find order q (x ∷ xs) ≡ find order q xs
skipped q x xs b = ap (λ t. cond t (Some x.1) (find order q xs)) (above_apart q x.0 b)

-- its value is found there
pub above_found : (key : Bytes) (ps : Pairs) (p : Bytes × Bytes) → Rises ps → pair_above key ps ≡ Some p → find order p.0 ps ≡ Some p.1
above_found key [] p r e = absurd (cc)
above_found key (x ∷ xs) p r e =
    elim (is_below x.0 key) as (λ b. (if b then pair_above key xs else Some x) ≡ Some p → find order p.0 (x ∷ xs) ≡ Some p.1) [
      | true ↦ λ s. skipped p.0 x xs (above-all (λ y. Below x.0 y.0) key xs p s r.0) ∙ above_found key xs p r.1 s
      | false ↦ λ s. subst (λ (y : Bytes × Bytes). find order y.0 (x ∷ xs) ≡ Some y.1) (let same : x ≡ p = cc in same)
          (ap (λ t. cond t (Some x.1) (find order x.0 xs)) (itself x.0))
    ] e

-- and no value between
pub above_between : (key : Bytes) (ps : Pairs) (p : Bytes × Bytes) → Rises ps → pair_above key ps ≡ Some p
    → (q : Bytes) → UpTo key q → Below q p.0 → find order q ps ≡ None
above_between key [] p r e q u b = refl
above_between key (x ∷ xs) p r e q u b =
    elim (is_below x.0 key) as (λ t. is_below x.0 key ≡ t → (if t then pair_above key xs else Some x) ≡ Some p → find order q (x ∷ xs) ≡ None) [
      | true ↦ λ t s. skipped q x xs (below-upto x.0 key q t u) ∙ above_between key xs p r.1 s q u b
      | false ↦ λ t s. let under : Below q x.0 = subst (λ (y : Bytes × Bytes). Below q y.0) (let same : p ≡ x = cc in same) b in
          find-none q (x ∷ xs) (
            below_apart q x.0 under,
            all-map (λ y. Below x.0 y.0) (λ y. eq_by_cmp order q y.0 ≡ false)
                (λ y h. below_apart q y.0 (below-trans q x.0 y.0 under h)) xs r.0,
          )
    ] refl e

-- if there is none, no key from this one on has a value there
pub above_none : (key : Bytes) (ps : Pairs) → pair_above key ps ≡ None → (q : Bytes) → UpTo key q → find order q ps ≡ None
above_none key [] e q u = refl
above_none key (x ∷ xs) e q u =
    elim (is_below x.0 key) as (λ t. is_below x.0 key ≡ t → (if t then pair_above key xs else Some x) ≡ None → find order q (x ∷ xs) ≡ None) [
      | true ↦ λ t s. skipped q x xs (below-upto x.0 key q t u) ∙ above_none key xs s q u
      | false ↦ λ t s. absurd (cc)
    ] refl e

-- they begin where a search for the key ends
sought_rest : (key : Bytes) (ps : Pairs) → drop (end_of (seek_of key ps)) ps ≡ pairs_above key ps
sought_rest key [] = refl
sought_rest key (p ∷ ps) =
    elim (order key p.0) as (λ o. order key p.0 ≡ o → drop (end_of (by_order o (Err 0) (Ok 0) (passed 1 (seek_of key ps)))) (p ∷ ps) ≡ pairs_above
    key (p ∷ ps)) [
      | Less ↦ λ e. let not : is_below p.0 key ≡ false = sym (greater_is_below key p.0) ∙ ap is_gt e in rw not refl
      | Equal ↦ λ e. let not : is_below p.0 key ≡ false = sym (greater_is_below key p.0) ∙ ap is_gt e in rw not refl
      | Greater ↦ λ e. let is : is_below p.0 key ≡ true = sym (greater_is_below key p.0) ∙ ap is_gt e in
          rw is (ap (λ n. drop n (p ∷ ps)) (end_passed (seek_of key ps)) ∙ sought_rest key ps)
    ] refl

pub some_above : (key : Bytes) (ps : Pairs) (from count room : ℕ) → from ≡ end_of (seek_of key ps) → count ≡ min (length ps - from) room
    → take (from + count - from) (drop from ps) ≡ take room (pairs_above key ps)
some_above key ps from count room at is =
    let long = length-drop from ps in
    let first : from + count - from ≡ min room (length (drop from ps)) = omega arith in
    ap (λ n. take n (drop from ps)) first ∙ take_min room (drop from ps) ∙ ap (take room) (ap (λ n. drop n ps) at ∙ sought_rest key ps)
