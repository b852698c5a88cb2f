-- Seats and the pages that are evicted.

use Rattle.std.proofs.Common.{◌≡◌, ◌≢◌, ℕ, zero, suc, ◌+◌, ◌-◌, ◌<◌, ◌≤◌, ◌==◌, Bool, true, false, cond, Some, None, List, [], ◌∷◌, ◌++◌, length, get_or, refl}
use Rattle.std.proofs.Common.{sym, ap, ◌∙◌, arith, length-append}
use Rattle.std.specs.Prelude.{slice_set}
use Rattle.std.specs.List.{slice_get}
use Rattle.std.proofs.lemmas.List.{length-map, get_or-map}
use Rattle.std.proofs.lemmas.Bool.{eqb-true, eqb-false, eq-eqb, ne_eqb}
use Rattle.bw_record.specs.declared.leaf.Leaf.{Leaf}
use Rattle.bw_page.specs.declared.seats.Seats.TheInside.{Inside}
use Rattle.bw_page.specs.Leaves.{leaf_at}
use Rattle.bw_page.specs.Seats.{Seated, Seating, is_among, numbers_from}
use Rattle.bw_page.specs.Seating.{leaves_of, evicted_from, seats_view}

-- whether the seat at an index is evicted, if there is one
abbrev pub evicted_in : List Seated → ℕ → Bool
evicted_in [] i = false
evicted_in (s ∷ ss) zero = s.is_evicted
evicted_in (s ∷ ss) (suc i) = evicted_in ss i

among-more : (p x : ℕ) (xs : List ℕ) → x ≢ p → is_among p (x ∷ xs) ≡ is_among p xs
among-more p x xs h = ap (λ b. cond b true (is_among p xs)) (ne_eqb _ _ h)

among-first : (p x : ℕ) (xs : List ℕ) → x ≡ p → is_among p (x ∷ xs) ≡ true
among-first p x xs h = ap (λ b. cond b true (is_among p xs)) (eq-eqb _ _ h)

pub among-below : (p n : ℕ) (ss : List Seated) → p < n → is_among p (evicted_from n ss) ≡ false
among-below p n [] h = refl
among-below p n (s ∷ ss) h =
    elim s.is_evicted as (λ b. is_among p (cond b (n ∷ evicted_from (n + 1) ss) (evicted_from (n + 1) ss)) ≡ false) [
      | true ↦ among-more p n (evicted_from (n + 1) ss) (λ e. absurd (omega arith)) ∙ among-below p (n + 1) ss (omega arith)
      | false ↦ among-below p (n + 1) ss (omega arith)
    ]

pub among-at : (n i : ℕ) (ss : List Seated) → is_among (i + n) (evicted_from n ss) ≡ evicted_in ss i
among-at n i [] = refl
among-at n zero (s ∷ ss) =
    elim s.is_evicted as (λ b. is_among (0 + n) (cond b (n ∷ evicted_from (n + 1) ss) (evicted_from (n + 1) ss)) ≡ b) [
      | true ↦ among-first (0 + n) n (evicted_from (n + 1) ss) (omega arith)
      | false ↦ among-below (0 + n) (n + 1) ss (omega arith)
    ]
among-at n (suc i) (s ∷ ss) =
    let e : suc i + n ≡ i + (n + 1) = omega arith in
    let rest : is_among (suc i + n) (evicted_from (n + 1) ss) ≡ evicted_in ss i = ap (λ k. is_among k (evicted_from (n + 1) ss)) e ∙ among-at (n + 1) i ss in
    elim s.is_evicted as (λ b. is_among (suc i + n) (cond b (n ∷ evicted_from (n + 1) ss) (evicted_from (n + 1) ss)) ≡ evicted_in ss i) [
      | true ↦ among-more (suc i + n) n (evicted_from (n + 1) ss) (λ e. absurd (omega arith)) ∙ rest
      | false ↦ rest
    ]

-- of seats from page 1 on
pub is_evicted_at : (i : ℕ) (ss : List Seated) → is_among (i + 1) (evicted_from 1 ss) ≡ evicted_in ss i
is_evicted_at i ss = among-at 1 i ss

in-beyond : (ss : List Seated) (i : ℕ) → length ss ≤ i → evicted_in ss i ≡ false
in-beyond [] i h = refl
in-beyond (s ∷ ss) zero h = absurd (omega arith)
in-beyond (s ∷ ss) (suc i) h = in-beyond ss i (omega arith)

-- no page is evicted that there is not
pub none_beyond : (ss : List Seated) (p : ℕ) → length ss < p → is_among p (evicted_from 1 ss) ≡ false
none_beyond ss p h = let e : p ≡ (p - 1) + 1 =
    omega arith in ap (λ k. is_among k (evicted_from 1 ss)) e ∙ is_evicted_at (p - 1) ss ∙ in-beyond ss (p - 1) (omega arith)

-- ---- one seat set

pub evicted-kept : (n at : ℕ) (s : Seated) (ss : List Seated) → s.is_evicted ≡ evicted_in ss at → evicted_from n (slice_set ss at s) ≡ evicted_from n ss
evicted-kept n at s [] h = refl
evicted-kept n zero s (x ∷ ss) h = ap (λ b. cond b (n ∷ evicted_from (n + 1) ss) (evicted_from (n + 1) ss)) h
evicted-kept n (suc at) s (x ∷ ss) h = ap (λ (ps : List ℕ). cond x.is_evicted (n ∷ ps) ps) (evicted-kept (n + 1) at s ss h)

same_cond : (a b : ℕ) (c d : ℕ) → (a ≡ b → c ≡ d) → (c ≡ d → a ≡ b) → (a == b) ≡ (c == d)
same_cond a b c d f g =
    elim (a == b) as (λ x. (a == b) ≡ x → x ≡ (c == d))
    [ true ↦ λ e. sym (eq-eqb _ _ (f (eqb-true _ _ e))) | false ↦ λ e. sym (ne_eqb _ _ (λ h. eqb-false _ _ e (g h))) ] refl

in-set : (ss : List Seated) (at i : ℕ) (s : Seated) → at < length ss → evicted_in (slice_set ss at s) i ≡ cond (i == at) s.is_evicted (evicted_in ss i)
in-set [] at i s h = absurd (omega arith)
in-set (x ∷ ss) zero zero s h = refl
in-set (x ∷ ss) zero (suc i) s h = ap (λ b. cond b s.is_evicted (evicted_in ss i)) (sym (ne_eqb (suc i) 0 (λ e. absurd (omega arith))))
in-set (x ∷ ss) (suc at) zero s h = ap (λ b. cond b s.is_evicted x.is_evicted) (sym (ne_eqb 0 (suc at) (λ e. absurd (omega arith))))
in-set (x ∷ ss) (suc at) (suc i) s h = in-set ss at i s (omega arith)
    ∙ ap (λ b. cond b s.is_evicted (evicted_in ss i)) (same_cond i at (suc i) (suc at) (λ h. omega arith) (λ h. omega arith))

pub evicted-set : (at : ℕ) (s : Seated) (ss : List Seated) → at < length ss → (p : ℕ)
    → is_among p (evicted_from 1 (slice_set ss at s)) ≡ cond (p == at + 1) s.is_evicted (is_among p (evicted_from 1 ss))
evicted-set at s ss h zero =
    among-below 0 1 (slice_set ss at s) (omega arith)
    ∙ ap (λ b. cond b s.is_evicted false) (sym (ne_eqb 0 (at + 1) (λ e. absurd (omega arith))))
    ∙ ap (λ b. cond (0 == at + 1) s.is_evicted b) (sym (among-below 0 1 ss (omega arith)))
evicted-set at s ss h (suc i) =
    let e : suc i ≡ i + 1 = omega arith in
    ap (λ k. is_among k (evicted_from 1 (slice_set ss at s))) e
    ∙ is_evicted_at i (slice_set ss at s)
    ∙ in-set ss at i s h
    ∙ ap (λ b. cond b s.is_evicted (evicted_in ss i)) (same_cond i at (suc i) (at + 1) (λ h. omega arith) (λ h. omega arith))
    ∙ ap (λ b. cond (suc i == at + 1) s.is_evicted b) (sym (ap (λ k. is_among k (evicted_from 1 ss)) e ∙ is_evicted_at i ss))

-- ---- one seat more or less

pub evicted-push : (n : ℕ) (s : Seated) (ss : List Seated) → s.is_evicted ≡ false → evicted_from n (ss ++ s ∷ []) ≡ evicted_from n ss
evicted-push n s [] h = ap (λ b. cond b (n ∷ []) []) h
evicted-push n s (x ∷ ss) h = ap (λ (ps : List ℕ). cond x.is_evicted (n ∷ ps) ps) (evicted-push (n + 1) s ss h)

pub in-last : (s : Seated) (ss : List Seated) → evicted_in (ss ++ s ∷ []) (length ss) ≡ s.is_evicted
in-last s [] = refl
in-last s (x ∷ ss) = in-last s ss

-- ---- looks

pub evicted_get : (ss : List Seated) (i : ℕ) (d : Seated) → i < length ss → evicted_in ss i ≡ (get_or ss i d).is_evicted
evicted_get [] i d h = absurd (omega arith)
evicted_get (s ∷ ss) zero d h = refl
evicted_get (s ∷ ss) (suc i) d h = evicted_get ss i d (omega arith)

pub look_past : (ss : List Seated) (i : ℕ) → length ss ≤ i → slice_get (leaves_of ss) i ≡ None
look_past [] i h = refl
look_past (s ∷ ss) zero h = absurd (omega arith)
look_past (s ∷ ss) (suc i) h = look_past ss i (omega arith)

pub look_at : (ss : List Seated) (i : ℕ) (d : Seated) → i < length ss → slice_get (leaves_of ss) i ≡ Some (get_or ss i d).leaf
look_at [] i d h = absurd (omega arith)
look_at (s ∷ ss) zero d h = refl
look_at (s ∷ ss) (suc i) d h = look_at ss i d (omega arith)

-- ---- seats and what is seen of them

pub count_is : (a : Inside) (v : Seating) → seats_view a ≡ v → length a.seats.items ≡ length v.items
count_is a v e = sym (length-map a.seats.items (λ (s : Seated). s.leaf)) ∙ ap (λ (x : Seating). length x.items) e

pub evicted_is : (a : Inside) (v : Seating) → seats_view a ≡ v → (at : ℕ) → is_among (at + 1) v.evicted ≡ evicted_in a.seats.items at
evicted_is a v e at = ap (λ (x : Seating). is_among (at + 1) x.evicted) (sym e) ∙ is_evicted_at at a.seats.items

-- the leaf of a seat
pub leaf_got : (a : Inside) (v : Seating) → seats_view a ≡ v → (at : ℕ) (s : Seated) (d : Leaf) → at < length a.seats.items
    → s ≡ get_or a.seats.items at s → get_or v.items at d ≡ s.leaf
leaf_got a v e at s d h is =
    ap (λ (x : Seating). get_or x.items at d) (sym e)
    ∙ get_or-map (λ (x : Seated). x.leaf) a.seats.items at s d h
    ∙ ap (λ (x : Seated). x.leaf) (sym is)

-- the leaf of a seat, if the index is one of a leaf
pub leaf_in : (a : Inside) (v : Seating) → seats_view a ≡ v → (at : ℕ) (s : Seated) (d : Leaf) → at < length v.items
    → s ≡ get_or a.seats.items at s → get_or v.items at d ≡ s.leaf
leaf_in a v e at s d h = leaf_got a v e at s d (let long = count_is a v e in omega arith)

-- whether the leaf of a seat is evicted
pub evicted_there : (a : Inside) (v : Seating) → seats_view a ≡ v → (at : ℕ) (s : Seated) → at < length v.items
    → s ≡ get_or a.seats.items at s → s.is_evicted ≡ is_among (at + 1) v.evicted
evicted_there a v e at s h is =
    let long = count_is a v e in
    ap (λ (x : Seated). x.is_evicted) is ∙ sym (evicted_get a.seats.items at s (omega arith)) ∙ sym (evicted_is a v e at)

-- the last seat, if the last page is here
pub last_here : (a : Inside) (v : Seating) → seats_view a ≡ v → (ss : List Seated) (s : Seated) → a.seats.items ≡ ss ++ s ∷ []
    → is_among (length v.items) v.evicted ≡ false → s.is_evicted ≡ false
last_here a v e ss s is here =
    let long = count_is a v e in
    let more = length-append ss (s ∷ []) in
    let all : length a.seats.items ≡ length (ss ++ s ∷ []) = ap length is in
    let last : length v.items ≡ length ss + 1 = omega arith in
    sym (in-last s ss) ∙ ap (λ (xs : List Seated). evicted_in xs (length ss)) (sym is) ∙ sym (evicted_is a v e (length ss))
    ∙ ap (λ n. is_among n v.evicted) (sym last) ∙ here

-- ---- a page's leaf written over itself

set_got : (leaves : List Leaf) (n : ℕ) (l : Leaf) → slice_get leaves n ≡ Some l → slice_set leaves n l ≡ leaves
set_got [] n l h = refl
set_got (x ∷ xs) zero l h = let e : l ≡ x = cc in ap (λ (y : Leaf). y ∷ xs) e
set_got (x ∷ xs) (suc n) l h = ap (λ ys. x ∷ ys) (set_got xs n l h)

pub set_itself : (leaves : List Leaf) (p : ℕ) (l : Leaf) → leaf_at p leaves ≡ Some l → slice_set leaves (p - 1) l ≡ leaves
set_itself leaves zero l h = absurd (cc)
set_itself leaves (suc n) l h = let e : suc n - 1 ≡ n = omega arith in ap (λ i. slice_set leaves i l) e ∙ set_got leaves n l h

-- one more seat, evicted
away_more : (n : ℕ) (s : Seated) (ss : List Seated) → s.is_evicted ≡ true → evicted_from n (ss ++ s ∷ []) ≡ evicted_from n ss ++ (n + length ss) ∷ []
away_more n s [] h = ap (λ b. cond b (n ∷ []) []) h ∙ (let e : n ≡ n + 0 = omega arith in ap (λ k. k ∷ []) e)
away_more n s (x ∷ ss) h =
    let e : n + 1 + length ss ≡ n + suc (length ss) = omega arith in
    elim x.is_evicted as (λ b. cond b (n ∷ evicted_from (n + 1) (ss ++ s ∷ [])) (evicted_from (n + 1) (ss ++ s ∷ []))
    ≡ cond b (n ∷ evicted_from (n + 1) ss) (evicted_from (n + 1) ss) ++ (n + suc (length ss)) ∷ []) [
      | true ↦ ap (λ (ps : List ℕ). n ∷ ps) (away_more (n + 1) s ss h ∙ ap (λ k. evicted_from (n + 1) ss ++ k ∷ []) e)
      | false ↦ away_more (n + 1) s ss h ∙ ap (λ k. evicted_from (n + 1) ss ++ k ∷ []) e
    ]

pub evicted-away : (s : Seated) (ss : List Seated) → s.is_evicted ≡ true → evicted_from 1 (ss ++ s ∷ []) ≡ evicted_from 1 ss ++ (length (leaves_of ss) + 1) ∷ []
evicted-away s ss h =
    let e : 1 + length ss ≡ length (leaves_of ss) + 1 = (let l = length-map ss (λ (s : Seated). s.leaf) in omega (arith, l)) in
    away_more 1 s ss h ∙ ap (λ k. evicted_from 1 ss ++ k ∷ []) e

-- numbers, and one more
numbers_suc : (p n : ℕ) → numbers_from p (suc n) ≡ numbers_from p n ++ (n + p) ∷ []
numbers_suc p zero = let e : p ≡ 0 + p = omega arith in ap (λ k. k ∷ []) e
numbers_suc p (suc n) =
    let e : n + (p + 1) ≡ suc n + p = omega arith in
    ap (λ (ks : List ℕ). p ∷ ks) (numbers_suc (p + 1) n ∙ ap (λ k. numbers_from (p + 1) n ++ k ∷ []) e)

pub numbers_more : (p n : ℕ) → numbers_from p (n + 1) ≡ numbers_from p n ++ (n + p) ∷ []
numbers_more p n = ap (numbers_from p) (let e : n + 1 ≡ suc n = omega arith in e) ∙ numbers_suc p n
