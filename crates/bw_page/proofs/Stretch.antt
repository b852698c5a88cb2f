-- A walk from page to page, in the order of their lows, gathers a stretch of the map's pairs.

use Rattle.std.proofs.Common.{◌≡◌, ◌⊎◌, inl, inr, ℕ, zero, suc, ◌-◌, ◌≤◌, ◌<◌, true, false, cond, if◌then◌else◌, Some, None, IsSome}
use Rattle.std.proofs.Common.{nat_le, List, [], ◌∷◌, ◌++◌, take, length}
use Rattle.std.proofs.Common.{refl, sym, ap, ◌∙◌, subst, arith, length-take, length-append}
use Rattle.std.proofs.lemmas.Bool.{leb-true, leb-false}
use Rattle.std.specs.List.{AllByRecursion as All}
use Rattle.std.specs.Ordering.{eq_by_cmp}
use Rattle.std.specs.FinMap as finite
use Rattle.std.specs.FinMap.Entries.{find}
use Rattle.bw_record.specs.Keys.{is_below}
use Rattle.bw_record.specs.declared.leaf.Leaf.{Leaf}
use Rattle.bw_record.proofs.Order.{Below, UpTo, not_both, must_be, upto-trans, upto-refl, below-upto, upto-below, below-trans, below_upto, below_apart, above_apart, tied}
use Rattle.bw_leaf.specs.Changed.{Bytes, Pairs, order}
use Rattle.bw_page.specs.Leaves.{home, union, AtHome, AreLeaves}
use Rattle.bw_page.specs.Lows.{lows_of}
use Rattle.bw_leaf.specs.Above.{pairs_above, with_some}
use Rattle.bw_page.specs.Ahead.{Reaches, IsStretch, HasGone, HasNoLowAbove, IsNextLow}
use Rattle.bw_leaf.proofs.Sorted.{all-map, all-take, Rises, ascends_rises, rises_ascends, rises-take, find-none}
use Rattle.bw_page.proofs.Homes.{home-all, home-low, home-max, same_home}
use Rattle.bw_page.proofs.Law.{get-union}
use Rattle.bw_leaf.proofs.Sought.{skipped}
use Rattle.bw_page.proofs.Ahead.{same_leaf, rises_at}

-- ---- lists of pairs

all_join : {X : Type 0} (P : X → Type 0) (xs ys : List X) → All P xs → All P ys → All P (xs ++ ys)
all_join P [] ys h k = k
all_join P (x ∷ xs) ys h k = (h.0, all_join P xs ys h.1 k)

rises_join : (to : Bytes) (xs ys : Pairs) → Rises xs → Rises ys → All (λ p. Below p.0 to) xs → All (λ p. UpTo to p.0) ys → Rises (xs ++ ys)
rises_join to [] ys r s under over = s
rises_join to (x ∷ xs) ys r s under over = (
  all_join (λ y. Below x.0 y.0) xs ys r.0 (all-map (λ y. UpTo to y.0) (λ y. Below x.0 y.0) (λ y u. below-upto x.0 to y.0 under.0 u) ys over),
  rises_join to xs ys r.1 s under.1 over,
)

find_left : (q : Bytes) (xs ys : Pairs) → All (λ p. eq_by_cmp order q p.0 ≡ false) ys → find order q (xs ++ ys) ≡ find order q xs
find_left q [] ys none = find-none q ys none
find_left q (x ∷ xs) ys none = ap (λ v. cond (eq_by_cmp order q x.0) (Some x.1) v) (find_left q xs ys none)

find_right : (q : Bytes) (xs ys : Pairs) → All (λ p. eq_by_cmp order q p.0 ≡ false) xs → find order q (xs ++ ys) ≡ find order q ys
find_right q [] ys none = refl
find_right q (x ∷ xs) ys none = ap (λ b. cond b (Some x.1) (find order q (xs ++ ys))) none.0 ∙ find_right q xs ys none.1

reach_split : (q : Bytes) (xs ys : Pairs) → Reaches q (xs ++ ys) → Reaches q xs ⊎ Reaches q ys
reach_split q [] ys h = inr h
reach_split q (x ∷ xs) ys (inl u) = inl (inl u)
reach_split q (x ∷ xs) ys (inr h) = elim (reach_split q xs ys h) as (λ _. (Reaches q (x ∷ xs)) ⊎ Reaches q ys) [ inl k ↦ inl (inr k) | inr k ↦ inr k ]

no_reach : (q to : Bytes) (xs : Pairs) → UpTo to q → All (λ p. Below p.0 to) xs → Reaches q xs → ⊥
no_reach q to [] u under h = h
no_reach q to (x ∷ xs) u under (inl v) = not_both (is_below x.0 q) (below-upto x.0 to q under.0 u) v
no_reach q to (x ∷ xs) u under (inr h) = no_reach q to xs u under.1 h

-- pairs up to one that is given
find_take : (q : Bytes) (n : ℕ) (ps : Pairs) → Rises ps → (length ps ≤ n) ⊎ Reaches q (take n ps) → find order q (take n ps) ≡ find order q ps
find_take q zero [] r h = refl
find_take q zero (x ∷ xs) r (inl h) = absurd (omega arith)
find_take q zero (x ∷ xs) r (inr h) = absurd h
find_take q (suc n) [] r h = refl
find_take q (suc n) (x ∷ xs) r (inl h) = ap (λ v. cond (eq_by_cmp order q x.0) (Some x.1) v) (find_take q n xs r.1 (inl (omega arith)))
find_take q (suc n) (x ∷ xs) r (inr (inl u)) =
    let apart : All (λ y. eq_by_cmp order q y.0 ≡ false) xs =
    all-map (λ y. Below x.0 y.0) (λ y. eq_by_cmp order q y.0 ≡ false) (λ y b. below_apart q y.0 (upto-below q x.0 y.0 u b)) xs r.0 in
    ap (λ v. cond (eq_by_cmp order q x.0) (Some x.1) v)
    (find-none q (take n xs) (all-take (λ y. eq_by_cmp order q y.0 ≡ false) n xs apart) ∙ sym (find-none q xs apart))
find_take q (suc n) (x ∷ xs) r (inr (inr h)) = ap (λ v. cond (eq_by_cmp order q x.0) (Some x.1) v) (find_take q n xs r.1 (inr h))

-- ---- the pairs of a page at or above a key

above_part : (P : Bytes × Bytes → Type 0) (key : Bytes) (ps : Pairs) → All P ps → All P (pairs_above key ps)
above_part P key [] h = tt
above_part P key (x ∷ xs) h = elim (is_below x.0 key) as (λ b. All P (if b then pairs_above key xs else x ∷ xs)) [ true ↦ above_part P key xs h.1 | false ↦ h ]

above_rises : (key : Bytes) (ps : Pairs) → Rises ps → Rises (pairs_above key ps)
above_rises key [] r = tt
above_rises key (x ∷ xs) r = elim (is_below x.0 key) as (λ b. Rises (if b then pairs_above key xs else x ∷ xs)) [ true ↦ above_rises key xs r.1 | false ↦ r ]

above_upto : (key : Bytes) (ps : Pairs) → Rises ps → All (λ p. UpTo key p.0) (pairs_above key ps)
above_upto key [] r = tt
above_upto key (x ∷ xs) r =
    elim (is_below x.0 key) as (λ b. is_below x.0 key ≡ b → All (λ p. UpTo key p.0) (if b then pairs_above key xs else x ∷ xs)) [
      | true ↦ λ t. above_upto key xs r.1
      | false ↦ λ t. (t, all-map (λ y. Below x.0 y.0) (λ y. UpTo key y.0) (λ y b. below_upto key y.0 (upto-below key x.0 y.0 t b)) xs r.0)
    ] refl

above_find : (q key : Bytes) (ps : Pairs) → UpTo key q → find order q (pairs_above key ps) ≡ find order q ps
above_find q key [] u = refl
above_find q key (x ∷ xs) u =
    elim (is_below x.0 key) as (λ b. is_below x.0 key ≡ b → find order q (if b then pairs_above key xs else x ∷ xs) ≡ find order q (x ∷ xs)) [
      | true ↦ λ t. above_find q key xs u ∙ sym (skipped q x xs (below-upto x.0 key q t u))
      | false ↦ λ t. refl
    ] refl

-- what is said of each low is said of one that is among them
low_among : (Q : Bytes → Type 0) (low : Bytes) (ls : List Leaf) → IsSome (find order low (lows_of ls)) → All (λ l. Q l.low) ls → Q low
low_among Q low [] some h = absurd (let no : IsSome {T = ℕ} None = some in cc)
low_among Q low (l ∷ ls) some h =
    elim (eq_by_cmp order low l.low) as (λ t. eq_by_cmp order low l.low ≡ t → IsSome (cond t (Some l.page) (find order low (lows_of ls))) → Q low) [
      | true ↦ λ t s. subst Q (sym (tied low l.low t)) h.0
      | false ↦ λ t s. low_among Q low ls s h.1
    ] refl some

-- ---- from page to page

module _ (m : ℕ) (leaves : List Leaf) (a : AreLeaves m leaves) (key to : Bytes) (most : ℕ) (found : Pairs)
    (gone : HasGone (union leaves) key to most found) where
  page : Pairs
  page = (home to leaves).pairs

  rises : Rises page
  unfolding page
  rises = rises_at m leaves a to

  more : Pairs
  more = take (most - length found) (pairs_above to page)

  more_upto : All (λ p. UpTo to p.0) more
  unfolding page more
  more_upto = all-take (λ p. UpTo to p.0) (most - length found) (pairs_above to page) (above_upto to page rises)

  more_few : length (found ++ more) ≤ most
  unfolding more
  more_few =
      let all = length-append found more in
      let some = length-take (most - length found) (pairs_above to page) in
      let few = gone.few in omega arith

  more_rises : Rises (found ++ more)
  unfolding page more
  more_rises =
      rises_join to found more (ascends_rises found gone.ascends)
      (rises-take (most - length found) (pairs_above to page) (above_rises to page rises)) gone.below more_upto

  more_from : All (λ p. UpTo key p.0) (found ++ more)
  more_from = all_join (λ p. UpTo key p.0) found more gone.from
      (all-map (λ p. UpTo to p.0) (λ p. UpTo key p.0) (λ p u. upto-trans key to p.0 gone.upto u) more more_upto)

  reached : (q : Bytes) → UpTo to q → (length (found ++ more) < most) ⊎ Reaches q (found ++ more)
      → (length (pairs_above to page) ≤ most - length found) ⊎ Reaches q more
  unfolding more
  reached q u (inl h) =
      let all = length-append found more in
      let some = length-take (most - length found) (pairs_above to page) in
      elim (nat_le (length (pairs_above to page)) (most - length found)) as (λ b. nat_le (length (pairs_above to page)) (most - length found) ≡ b
      → (length (pairs_above to page) ≤ most - length found) ⊎ Reaches q more) [
        | true ↦ λ e. inl (leb-true _ _ e)
        | false ↦ λ e. let over = leb-false _ _ e in absurd (omega arith)
      ] refl
  reached q u (inr h) =
      elim (reach_split q found more h) as (λ _. (length (pairs_above to page) ≤ most - length found) ⊎ Reaches q more)
      [ inl k ↦ absurd (no_reach q to found u gone.below k) | inr k ↦ inr k ]

  -- a key up to which the walk has come has the value that its pairs give
  told : length found < most → (q : Bytes) → UpTo key q → (UpTo to q → home q leaves ≡ home to leaves)
      → (length (found ++ more) < most) ⊎ Reaches q (found ++ more) → finite.get (union leaves) q ≡ find order q (found ++ more)
  unfolding page more
  told few q u same h =
      elim (is_below q to) as (λ t. is_below q to ≡ t → finite.get (union leaves) q ≡ find order q (found ++ more)) [
        | true ↦ λ t. gone.all q u t (inl few)
            ∙ sym (find_left q found more
            (all-map (λ p. UpTo to p.0) (λ p. eq_by_cmp order q p.0 ≡ false) (λ p v. below_apart q p.0 (below-upto q to p.0 t v)) more more_upto))
        | false ↦ λ t. get-union m q leaves a ∙ ap (λ (l : Leaf). find order q l.pairs) (same t)
            ∙ sym (above_find q to page t)
            ∙ sym (find_take q (most - length found) (pairs_above to page) (above_rises to page rises) (reached q t h))
            ∙ sym (find_right q found more
            (all-map (λ p. Below p.0 to) (λ p. eq_by_cmp order q p.0 ≡ false) (λ p b. above_apart q p.0 (below-upto p.0 to q b t)) found gone.below))
      ] refl

  -- on to the page of the next low
  pub gone_more : (low : Bytes) → length found < most → IsNextLow leaves to low
      → HasGone (union leaves) key low most (with_some most found (pairs_above to (home to leaves).pairs))
  unfolding page more
  gone_more low few next = record {
    few = more_few;
    ascends = rises_ascends (found ++ more) more_rises;
    from = more_from;
    below = all_join (λ p. Below p.0 low) found more
        (all-map (λ p. Below p.0 to) (λ p. Below p.0 low) (λ p b. below-trans p.0 to low b next.above) found gone.below)
        (all-take (λ p. Below p.0 low) (most - length found) (pairs_above to page)
        (above_part (λ p. Below p.0 low) to page
        (all-map (λ p. (home p.0 leaves).page ≡ (home to leaves).page) (λ p. Below p.0 low)
        (λ p own. must_be (is_below p.0 low) (λ not.
        let under : UpTo low (home p.0 leaves).low = low_among (λ b. UpTo b p.0 → UpTo b (home p.0 leaves).low) low leaves next.its (home-max p.0 leaves) not in
        let same : home p.0 leaves ≡ home to leaves = same_home leaves p.0 to a.first a.pages own in
        not_both (is_below to low) next.above
        (upto-trans low (home to leaves).low to (subst (λ (l : Leaf). UpTo low l.low) same under) (home-low to leaves a.first))))
        page (home-all (AtHome leaves) to leaves a.first a.homes))));
    upto = upto-trans key to low gone.upto (below_upto to low next.above);
    all = λ q u b h. told few q u
        (λ t. same_leaf m leaves a to q t (all-map (λ l. Below to l.low → UpTo low l.low) (λ l. Below to l.low → Below q l.low)
        (λ l least above. below-upto q low l.low b (least above)) leaves next.least)) h;
  }

  -- the last page
  pub gone_last : length found < most → HasNoLowAbove leaves to
      → IsStretch (union leaves) key most (with_some most found (pairs_above to (home to leaves).pairs))
  unfolding page more
  gone_last few last = record {
    few = more_few;
    ascends = rises_ascends (found ++ more) more_rises;
    from = more_from;
    all = λ q u h. told few q u
        (λ t. same_leaf m leaves a to q t (all-map (λ l. UpTo l.low to) (λ l. Below to l.low → Below q l.low)
        (λ l not is. not_both (is_below to l.low) is not) leaves last)) h;
  }

  -- as many as were asked for
  pub gone_full : most ≤ length found → IsStretch (union leaves) key most found
  gone_full full = record {
    few = gone.few;
    ascends = gone.ascends;
    from = gone.from;
    all = λ q u h. elim (is_below q to) as (λ t. is_below q to ≡ t → finite.get (union leaves) q ≡ find order q found) [
      | true ↦ λ t. gone.all q u t h
      | false ↦ λ t. elim h as (λ _. finite.get (union leaves) q ≡ find order q found)
          [ inl few ↦ absurd (omega arith) | inr r ↦ absurd (no_reach q to found t gone.below r) ]
    ] refl;
  }

-- a walk begins at its key, without a pair
pub gone_first : (leaves : List Leaf) (key : Bytes) (most : ℕ) → HasGone (union leaves) key key most []
gone_first leaves key most = record {
  few = omega arith;
  ascends = refl;
  from = tt;
  below = tt;
  upto = upto-refl key;
  all = λ q u b h. not_both (is_below q key) b u;
}
