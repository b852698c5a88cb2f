-- The home of a key: the leaf with the greatest low not above it.

use Rattle.std.proofs.Common.{◌≡◌, ◌≢◌, ℕ, suc, ◌+◌, ◌-◌, ◌<◌, ◌≤◌, Bool, true, false, cond, Option, Some, None, List, [], ◌∷◌, ◌++◌, map, length, get_or, refl}
use Rattle.std.proofs.Common.{sym, ap, ◌∙◌, subst, arith, ◌⊎◌, inl, inr, if◌then◌else◌}
use Rattle.std.specs.Prelude.{slice_set, ◌==◌}
use Rattle.std.specs.List.{AllByRecursion as All, flat_map}
use Rattle.std.specs.Ordering.{eq_by_cmp}
use Rattle.std.specs.FinMap.Entries.{find}
use Rattle.std.proofs.lemmas.Bool.{eqb-true, eqb-false, eq-eqb, ne_eqb}
use Rattle.bw_record.specs.Keys.{is_below}
use Rattle.bw_record.specs.declared.leaf.Leaf.{Leaf}
use Rattle.bw_record.proofs.Order.{Below, UpTo, not_both, below_upto, upto-trans, upto-refl, upto_empty, apart}
use Rattle.bw_leaf.specs.Changed.{Bytes, Pairs, order}
use Rattle.bw_page.specs.Leaves.{is_better, best, home, AreNumbered, BeginsEmpty, AtHome, AreLeaves}
use Rattle.bw_leaf.proofs.Sorted.{all-map, all-zip, find-none}

-- ---- one step of the search

abbrev pub pick : Bytes → Leaf → Leaf → Leaf
pick q x l = if is_better q x l then l else x

-- the second is better, or the first stays
pub data Picks (q : Bytes) (x l : Leaf) : Type 0 where
  second : UpTo l.low q → Below x.low l.low → pick q x l ≡ l → Picks q x l
  first : (UpTo l.low q → UpTo l.low x.low) → pick q x l ≡ x → Picks q x l

picks_by : (q : Bytes) (x l : Leaf) (s t : Bool) → is_below q l.low ≡ s → is_below x.low l.low ≡ t → Picks q x l
picks_by q x l true t e f = first (λ u. not_both _ e u) (rw e)
picks_by q x l false true e f = second e f (rw (e, f))
picks_by q x l false false e f = first (λ u. f) (rw (e, f))

pub picks : (q : Bytes) (x l : Leaf) → Picks q x l
picks q x l = picks_by q x l _ _ refl refl

pub pick-all : (P : Leaf → Type 0) (q : Bytes) (x l : Leaf) → P x → P l → P (pick q x l)
pick-all P q x l h k = elim (is_better q x l) as (λ b. P (if b then l else x)) [ true ↦ k | false ↦ h ]

-- ---- the best of a list

best-all : (P : Leaf → Type 0) (q : Bytes) (x : Leaf) (ls : List Leaf) → P x → All P ls → P (best q x ls)
best-all P q x [] h k = h
best-all P q x (l ∷ ls) h k = best-all P q (pick q x l) ls (pick-all P q x l h k.0) k.1

-- what holds of each leaf holds of a key's home
pub home-all : (P : Leaf → Type 0) (q : Bytes) (leaves : List Leaf) → BeginsEmpty leaves → All P leaves → P (home q leaves)
home-all P q [] b h = absurd b
home-all P q (l ∷ ls) b h = best-all P q l ls h.0 h.1

best-low : (q : Bytes) (x : Leaf) (ls : List Leaf) → UpTo x.low q → UpTo (best q x ls).low q
best-low q x [] h = h
best-low q x (l ∷ ls) h =
    best-low q (pick q x l) ls (elim (picks q x l) [
      | second u b e ↦ subst (λ (y : Leaf). UpTo y.low q) (sym e) u
      | first f e ↦ subst (λ (y : Leaf). UpTo y.low q) (sym e) h
    ])

pub home-low : (q : Bytes) (leaves : List Leaf) → BeginsEmpty leaves → UpTo (home q leaves).low q
home-low q [] b = absurd b
home-low q (l ∷ ls) b = best-low q l ls (subst (λ (low : Bytes). UpTo low q) (sym b) (upto_empty q))

best-over : (q : Bytes) (x : Leaf) (ls : List Leaf) → UpTo x.low (best q x ls).low
best-over q x [] = upto-refl x.low
best-over q x (l ∷ ls) =
    upto-trans x.low (pick q x l).low (best q x (l ∷ ls)).low (elim (picks q x l) [
      | second u b e ↦ subst (λ (y : Leaf). UpTo x.low y.low) (sym e) (below_upto x.low l.low b)
      | first f e ↦ subst (λ (y : Leaf). UpTo x.low y.low) (sym e) (upto-refl x.low)
    ]) (best-over q (pick q x l) ls)

best-max : (q : Bytes) (x : Leaf) (ls : List Leaf) → All (λ l. UpTo l.low q → UpTo l.low (best q x ls).low) ls
best-max q x [] = tt
best-max q x (l ∷ ls) = (
  λ h. upto-trans l.low (pick q x l).low (best q x (l ∷ ls)).low (elim (picks q x l) [
    | second u b e ↦ subst (λ (y : Leaf). UpTo l.low y.low) (sym e) (upto-refl l.low)
    | first f e ↦ subst (λ (y : Leaf). UpTo l.low y.low) (sym e) (f h)
  ]) (best-over q (pick q x l) ls),
  best-max q (pick q x l) ls,
)

-- no leaf's low that is not above the key is greater
pub home-max : (q : Bytes) (leaves : List Leaf) → All (λ l. UpTo l.low q → UpTo l.low (home q leaves).low) leaves
home-max q [] = tt
home-max q (l ∷ ls) = (λ h. best-over q l ls, best-max q l ls)

best-push : (q : Bytes) (x : Leaf) (ls : List Leaf) (u : Leaf) → best q x (ls ++ u ∷ []) ≡ pick q (best q x ls) u
best-push q x [] u = refl
best-push q x (l ∷ ls) u = best-push q (pick q x l) ls u

pub home-push : (q : Bytes) (leaves : List Leaf) (u : Leaf) → BeginsEmpty leaves → home q (leaves ++ u ∷ []) ≡ pick q (home q leaves) u
home-push q [] u b = absurd b
home-push q (l ∷ ls) u b = best-push q l ls u

pick-map : (f : Leaf → Leaf) (q : Bytes) (x l : Leaf) → (f x).low ≡ x.low → (f l).low ≡ l.low → pick q (f x) (f l) ≡ f (pick q x l)
pick-map f q x l h k =
    let same : is_better q (f x) (f l) ≡ is_better q x l = rw (h, k) in
    ap (λ b. if b then f l else f x) same ∙ elim (is_better q x l) as (λ b. (if b then f l else f x) ≡ f (if b then l else x)) [ true ↦ refl | false ↦ refl ]

best-map : (f : Leaf → Leaf) (q : Bytes) (x : Leaf) (ls : List Leaf) → (f x).low ≡ x.low → All (λ l. (f l).low ≡ l.low) ls
    → best q (f x) (map f ls) ≡ f (best q x ls)
best-map f q x [] h k = refl
best-map f q x (l ∷ ls) h k =
    ap (λ y. best q y (map f ls)) (pick-map f q x l h k.0)
    ∙ best-map f q (pick q x l) ls (pick-all (λ y. (f y).low ≡ y.low) q x l h k.0) k.1

-- a change of leaves that keeps their lows changes the home of no key
pub home-map : (f : Leaf → Leaf) (q : Bytes) (leaves : List Leaf) → BeginsEmpty leaves → All (λ l. (f l).low ≡ l.low) leaves
    → home q (map f leaves) ≡ f (home q leaves)
home-map f q [] b h = absurd b
home-map f q (l ∷ ls) b h = best-map f q l ls h.0 h.1

-- ---- pages by number

pub pages_from : (n : ℕ) (ls : List Leaf) → AreNumbered n ls → All (λ l. n ≤ l.page) ls
pages_from n [] h = tt
pages_from n (l ∷ ls) h =
    (let e = h.0 in omega arith, all-map (λ k. n + 1 ≤ k.page) (λ k. n ≤ k.page) (λ k le. omega arith) ls (pages_from (n + 1) ls h.1))

pages_below : (n : ℕ) (ls : List Leaf) → AreNumbered n ls → All (λ l. l.page < n + length ls) ls
pages_below n [] h = tt
pages_below n (l ∷ ls) h = (
  let e = h.0 in omega arith,
  all-map (λ k. k.page < (n + 1) + length ls) (λ k. k.page < n + length (l ∷ ls)) (λ k lt. omega arith) ls
      (pages_below (n + 1) ls h.1),
)

stands : (n : ℕ) (ls : List Leaf) (d : Leaf) → AreNumbered n ls → All (λ l. get_or ls (l.page - n) d ≡ l) ls
stands n [] d h = tt
stands n (l ∷ ls) d h =
    let zeroth : l.page - n ≡ 0 = let e = h.0 in omega arith in (
      ap (λ i. get_or (l ∷ ls) i d) zeroth,
      all-zip (λ k. get_or ls (k.page - (n + 1)) d ≡ k) (λ k. n + 1 ≤ k.page) (λ k. get_or (l ∷ ls) (k.page - n) d ≡ k)
          (λ k e le. let next : k.page - n ≡ suc (k.page - (n + 1)) = omega arith in ap (λ i. get_or (l ∷ ls) i d) next ∙ e)
          ls (stands (n + 1) ls d h.1) (pages_from (n + 1) ls h.1),
    )

-- the leaf of a page stands at its place
pub stands_at : (leaves : List Leaf) (d : Leaf) → AreNumbered 1 leaves → All (λ l. get_or leaves (l.page - 1) d ≡ l) leaves
stands_at leaves d h = stands 1 leaves d h

pub pages_within : (leaves : List Leaf) → AreNumbered 1 leaves → All (λ l. (1 ≤ l.page) × (l.page ≤ length leaves)) leaves
pages_within leaves h =
    all-zip (λ l. 1 ≤ l.page) (λ l. l.page < 1 + length leaves) (λ l. (1 ≤ l.page) × (l.page ≤ length leaves)) (λ l a b. (a, omega arith)) leaves
    (pages_from 1 leaves h) (pages_below 1 leaves h)

-- two leaves of one page, each of which stands at its place, are one leaf
pub one_leaf : (leaves : List Leaf) (a b : Leaf) → get_or leaves (a.page - 1) a ≡ a → get_or leaves (b.page - 1) a ≡ b → a.page ≡ b.page → a ≡ b
one_leaf leaves a b h k e = sym h ∙ ap (λ p. get_or leaves (p - 1) a) e ∙ k

-- keys whose homes are one page have one home
pub same_home : (leaves : List Leaf) (q k : Bytes) → BeginsEmpty leaves → AreNumbered 1 leaves → (home q leaves).page ≡ (home k leaves).page
    → home q leaves ≡ home k leaves
same_home leaves q k b h e =
    one_leaf leaves (home q leaves) (home k leaves)
    (home-all (λ l. get_or leaves (l.page - 1) (home q leaves) ≡ l) q leaves b (stands_at leaves (home q leaves) h))
    (home-all (λ l. get_or leaves (l.page - 1) (home q leaves) ≡ l) k leaves b (stands_at leaves (home q leaves) h)) e

-- a leaf of the list whose page is a key's home is that home
pub is_home : (leaves : List Leaf) (q : Bytes) → BeginsEmpty leaves → AreNumbered 1 leaves → All (λ l. l.page ≡ (home q leaves).page → l ≡ home q leaves) leaves
is_home leaves q b h =
    all-map (λ l. get_or leaves (l.page - 1) (home q leaves) ≡ l) (λ l. l.page ≡ (home q leaves).page → l ≡ home q leaves)
    (λ l at e. sym at ∙ ap (λ p. get_or leaves (p - 1) (home q leaves)) e
    ∙ home-all (λ x. get_or leaves (x.page - 1) (home q leaves) ≡ x) q leaves b (stands_at leaves (home q leaves) h))
    leaves (stands_at leaves (home q leaves) h)

-- ---- a leaf written in its place

abbrev pub put_in : Leaf → Leaf → Leaf
put_in d l = if l.page == d.page then d else l

map-others : (d : Leaf) (ls : List Leaf) (n : ℕ) → d.page < n → All (λ l. n ≤ l.page) ls → map (put_in d) ls ≡ ls
map-others d [] n h k = refl
map-others d (l ∷ ls) n h k =
    let ne : (l.page == d.page) ≡ false = ne_eqb l.page d.page (λ e. let le = k.0 in absurd (omega arith)) in
    rw ne (ap (λ xs. l ∷ xs) (map-others d ls n h k.1))

set_is_put_by : (d : Leaf) (n : ℕ) (ls : List Leaf) (b : Bool) → (n == d.page) ≡ b → AreNumbered n ls → n ≤ d.page
    → slice_set ls (d.page - n) d ≡ map (put_in d) ls
set_is_put_by d n [] b e h k = refl
set_is_put_by d n (l ∷ ls) true e h k =
    let same : n ≡ d.page = eqb-true n d.page e in
    let zeroth : d.page - n ≡ 0 = omega arith in
    let here : (l.page == d.page) ≡ true = eq-eqb l.page d.page (h.0 ∙ same) in
    ap (λ i. slice_set (l ∷ ls) i d) zeroth ∙ rw here (ap (λ xs. d ∷ xs) (sym (map-others d ls (n + 1) (omega arith) (pages_from (n + 1) ls h.1))))
set_is_put_by d n (l ∷ ls) false e h k =
    let more : n + 1 ≤ d.page = let ne = eqb-false n d.page e in omega arith in
    let next : d.page - n ≡ suc (d.page - (n + 1)) = omega arith in
    let not_here : (l.page == d.page) ≡ false = ne_eqb l.page d.page (λ s. let one = h.0 in absurd (omega arith)) in
    ap (λ i. slice_set (l ∷ ls) i d) next ∙ rw not_here (ap (λ xs. l ∷ xs) (set_is_put_by d (n + 1) ls ((n + 1) == d.page) refl h.1 more))

-- a write in a page's place is a change of each leaf
pub set_is_put : (d : Leaf) (leaves : List Leaf) → AreNumbered 1 leaves → 1 ≤ d.page → slice_set leaves (d.page - 1) d ≡ map (put_in d) leaves
set_is_put d leaves h k = set_is_put_by d 1 leaves (1 == d.page) refl h k

-- ---- all pairs of all leaves

found_front : (q : Bytes) (xs ys : Pairs) (v : Bytes) → find order q xs ≡ Some v → find order q (xs ++ ys) ≡ Some v
found_front q [] ys v h = absurd (cc)
found_front q (x ∷ xs) ys v h =
    elim (eq_by_cmp order q x.0) as (λ b. cond b (Some x.1) (find order q xs) ≡ Some v → cond b (Some x.1) (find order q (xs ++ ys)) ≡ Some v) [
      | true ↦ λ e. e
      | false ↦ λ e. found_front q xs ys v e
    ] h

none_front : (q : Bytes) (xs ys : Pairs) → find order q xs ≡ None → find order q (xs ++ ys) ≡ find order q ys
none_front q [] ys h = refl
none_front q (x ∷ xs) ys h =
    elim (eq_by_cmp order q x.0) as (λ b. cond b (Some x.1) (find order q xs) ≡ None → cond b (Some x.1) (find order q (xs ++ ys)) ≡ find order q ys) [
      | true ↦ λ e. absurd (cc)
      | false ↦ λ e. none_front q xs ys e
    ] h

abbrev pub pairs_of : List Leaf → Pairs
pairs_of leaves = flat_map (λ l. l.pairs) leaves

-- each leaf has this look-up or none, and one of them has it
among : (q : Bytes) (v : Option Bytes) (ls : List Leaf) → All (λ l. (find order q l.pairs ≡ v) ⊎ (find order q l.pairs ≡ None)) ls
    → (find order q (pairs_of ls) ≡ v) ⊎ ((find order q (pairs_of ls) ≡ None) × All (λ l. find order q l.pairs ≡ None) ls)
among q v [] h = inr (refl, tt)
among q None (l ∷ ls) h =
    let none : find order q l.pairs ≡ None = elim h.0 [ inl e ↦ e | inr e ↦ e ] in
    elim (among q None ls h.1) [ inl e ↦ inl (none_front q l.pairs (pairs_of ls) none ∙ e) | inr e ↦ inl (none_front q l.pairs (pairs_of ls) none ∙ e.0) ]
among q (Some v) (l ∷ ls) h =
    elim h.0 [
      | inl e ↦ inl (found_front q l.pairs (pairs_of ls) v e)
      | inr e ↦ elim (among q (Some v) ls h.1) [
        | inl f ↦ inl (none_front q l.pairs (pairs_of ls) e ∙ f)
        | inr f ↦ inr (none_front q l.pairs (pairs_of ls) e ∙ f.0, (e, f.1))
      ]
    ]

absent : (q : Bytes) (ps : Pairs) (leaves : List Leaf) (page : ℕ) → All (λ p. (home p.0 leaves).page ≡ page) ps → (home q leaves).page ≢ page
    → find order q ps ≡ None
absent q ps leaves page h ne =
    find-none q ps (all-map (λ p. (home p.0 leaves).page ≡ page) (λ p. eq_by_cmp order q p.0 ≡ false)
    (λ p at. apart q p.0 (λ same. ne (ap (λ k. (home k leaves).page) same ∙ at))) ps h)

here_or_none : (m : ℕ) (q : Bytes) (leaves : List Leaf) → AreLeaves m leaves
    → All (λ l. (find order q l.pairs ≡ find order q (home q leaves).pairs) ⊎ (find order q l.pairs ≡ None)) leaves
here_or_none m q leaves a =
    all-zip (AtHome leaves) (λ l. l.page ≡ (home q leaves).page → l ≡ home q leaves)
    (λ l. (find order q l.pairs ≡ find order q (home q leaves).pairs) ⊎ (find order q l.pairs ≡ None))
    (λ l at is. elim ((home q leaves).page == l.page) as
    (λ b. ((home q leaves).page == l.page) ≡ b → (find order q l.pairs ≡ find order q (home q leaves).pairs) ⊎ (find order q l.pairs ≡ None)) [
      | true ↦ λ e. inl (ap (λ (x : Leaf). find order q x.pairs) (is (sym (eqb-true _ _ e))))
      | false ↦ λ e. inr (absent q l.pairs leaves l.page at (eqb-false _ _ e))
    ] refl)
    leaves a.homes (is_home leaves q a.first a.pages)

-- a key is found only in its home
pub find-home : (m : ℕ) (q : Bytes) (leaves : List Leaf) → AreLeaves m leaves → find order q (pairs_of leaves) ≡ find order q (home q leaves).pairs
find-home m q leaves a =
    elim (among q (find order q (home q leaves).pairs) leaves (here_or_none m q leaves a)) [
      | inl e ↦ e
      | inr e ↦ e.0 ∙ sym (home-all (λ l. find order q l.pairs ≡ None) q leaves a.first e.1)
    ]

-- the leaf of a key's home stands at its place
pub home_stands : (m : ℕ) (q : Bytes) (leaves : List Leaf) → AreLeaves m leaves → (d : Leaf) → get_or leaves ((home q leaves).page - 1) d ≡ home q leaves
home_stands m q leaves a d = home-all (λ l. get_or leaves (l.page - 1) d ≡ l) q leaves a.first (stands_at leaves d a.pages)
