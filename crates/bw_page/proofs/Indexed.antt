-- The index of lows gives a key's home.

use Rattle.std.proofs.Common.{◌≡◌, ℕ, zero, suc, ◌-◌, ◌<◌, ◌≤◌, arith, Bool, true, false, cond, Option, Some, None, IsSome, List, [], ◌∷◌, length, drop, get_or}
use Rattle.std.proofs.Common.{refl, sym, ap, ◌∙◌, subst}
use Rattle.std.specs.List.{AllByRecursion as All, slice_get}
use Rattle.std.specs.Option.{IsSomeAnd}
use Rattle.std.specs.Ordering.{eq_by_cmp}
use Rattle.std.specs.FinMap.Entries.{find}
use Rattle.std.proofs.lemmas.Option.{slice_get-get_or}
use Rattle.bw_record.specs.declared.leaf.Leaf.{Leaf}
use Rattle.bw_record.proofs.Order.{UpTo, upto_empty, upto-antisymm, tied, itself}
use Rattle.bw_leaf.specs.Changed.{Bytes, order, empty_leaf}
use Rattle.bw_page.specs.Leaves.{best, home, leaf_at, AreNumbered, AreLeaves}
use Rattle.bw_page.specs.Lows.{lows_of}
use Rattle.bw_lows.specs.LowHeads.{IsGreatestLow, HasNoLow}
use Rattle.bw_page.specs.Shown.{HasGreatestLow, TakesKey}
use Rattle.bw_leaf.proofs.Sorted.{all-map, all-zip}
use Rattle.bw_page.proofs.Homes.{picks, second, first, home-all, home-low, home-max, stands_at, pages_within}

-- a page that the lows give a low has that low
low_found : (P : ℕ → Type 0) (low : Bytes) (page : ℕ) (ls : List Leaf) → find order low (lows_of ls) ≡ Some page → All (λ l. l.low ≡ low → P l.page) ls → P page
low_found P low page [] e h = absurd (cc)
low_found P low page (l ∷ ls) e h =
    elim (eq_by_cmp order low l.low) as (λ b. eq_by_cmp order low l.low ≡ b → cond b (Some l.page) (find order low (lows_of ls)) ≡ Some page → P page) [
      | true ↦ λ t s. subst P (let same : l.page ≡ page = cc in same) (h.0 (sym (tied low l.low t)))
      | false ↦ λ t s. low_found P low page ls s h.1
    ] refl e

pub some_either : (b : Bool) (n : ℕ) (o : Option ℕ) → IsSome o → IsSome (cond b (Some n) o)
some_either true n o h = refl
some_either false n o h = h

-- each low is among the lows
pub lows_found : (ls : List Leaf) → All (λ l. IsSome (find order l.low (lows_of ls))) ls
lows_found [] = tt
lows_found (x ∷ xs) = (
  subst (λ b. IsSome (cond b (Some x.page) (find order x.low (lows_of xs)))) (sym (itself x.low)) refl,
  all-map (λ l. IsSome (find order l.low (lows_of xs))) (λ l. IsSome (find order l.low (lows_of (x ∷ xs))))
      (λ l h. some_either (eq_by_cmp order l.low x.low) x.page (find order l.low (lows_of xs)) h) xs (lows_found xs),
)

best-stays : (q : Bytes) (x : Leaf) (ls : List Leaf) → All (λ l. UpTo l.low q → ⊥) ls → best q x ls ≡ x
best-stays q x [] h = refl
best-stays q x (l ∷ ls) h = elim (picks q x l) [ second u b e ↦ absurd (h.0 u) | first f e ↦ ap (λ y. best q y ls) e ∙ best-stays q x ls h.1 ]

-- if no low of another page is up to the key, its home is page 1
pub none_below_is_first : (m : ℕ) (q : Bytes) (leaves : List Leaf) → AreLeaves m leaves
    → ((low : Bytes) → UpTo low q → find order low (lows_of (drop 1 leaves)) ≡ None) → 1 ≡ (home q leaves).page
none_below_is_first m q [] a h = absurd a.first
none_below_is_first m q (x ∷ xs) a h =
    sym (ap (λ (l : Leaf). l.page) (best-stays q x xs
    (all-map (λ l. IsSome (find order l.low (lows_of xs))) (λ l. UpTo l.low q → ⊥)
    (λ l some u. let none = h l.low u in let some_none : IsSome {T = ℕ} None = subst (λ (o : Option ℕ). IsSome o) none some in absurd (cc)) xs
    (lows_found xs))) ∙ a.pages.0)

-- the greatest low up to the key is that of its home
pub last_below : (m : ℕ) (q low : Bytes) (page : ℕ) (leaves : List Leaf) → AreLeaves m leaves → UpTo low q
    → find order low (lows_of (drop 1 leaves)) ≡ Some page
    → ((k : Bytes) → UpTo k q → IsSome (find order k (lows_of (drop 1 leaves))) → UpTo k low) → page ≡ (home q leaves).page
last_below m q low page [] a u e h = absurd a.first
last_below m q low page (x ∷ xs) a u e h =
    let over : UpTo low (home q (x ∷ xs)).low =
    low_found (λ n. UpTo low (home q (x ∷ xs)).low) low page xs e
    (all-map (λ l. UpTo l.low q → UpTo l.low (home q (x ∷ xs)).low) (λ l. l.low ≡ low → UpTo low (home q (x ∷ xs)).low)
    (λ l max is. subst (λ (b : Bytes). UpTo b (home q (x ∷ xs)).low) is (max (subst (λ (b : Bytes). UpTo b q) (sym is) u))) xs (home-max q (x ∷ xs)).1) in
    let under : UpTo (home q (x ∷ xs)).low low =
    home-all (λ l. UpTo l.low q → UpTo l.low low) q (x ∷ xs) a.first (
      λ is. subst (λ (b : Bytes). UpTo b low) (sym a.first) (upto_empty low),
      all-map (λ l. IsSome (find order l.low (lows_of xs))) (λ l. UpTo l.low q → UpTo l.low low) (λ l some is. h l.low is some) xs (lows_found xs),
    )
    (home-low q (x ∷ xs) a.first) in
    let same : low ≡ (home q (x ∷ xs)).low = upto-antisymm low (home q (x ∷ xs)).low over under in
    low_found (λ n. n ≡ (home q (x ∷ xs)).page) low page xs e
    (all-map (λ l. All (λ b. l.low ≡ b.low → l.page ≡ b.page) (x ∷ xs)) (λ l. l.low ≡ low → l.page ≡ (home q (x ∷ xs)).page)
    (λ l own is. home-all (λ b. l.low ≡ b.low → l.page ≡ b.page) q (x ∷ xs) a.first own (is ∙ same)) xs a.lows.1)

-- ---- a page's leaf

pub leaf_at-at : (p : ℕ) (leaves : List Leaf) → 1 ≤ p → leaf_at p leaves ≡ slice_get leaves (p - 1)
leaf_at-at zero leaves h = absurd (omega arith)
leaf_at-at (suc n) leaves h = let e : suc n - 1 ≡ n = omega arith in ap (slice_get leaves) (sym e)

-- each leaf is that of its page
pub each_at : (leaves : List Leaf) → AreNumbered 1 leaves → All (λ l. leaf_at l.page leaves ≡ Some l) leaves
each_at leaves h =
    all-zip (λ l. (1 ≤ l.page) × (l.page ≤ length leaves)) (λ l. get_or leaves (l.page - 1) empty_leaf ≡ l) (λ l. leaf_at l.page leaves ≡ Some l)
    (λ l within at. let below : l.page - 1 < length leaves = omega arith in
    leaf_at-at l.page leaves within.0 ∙ slice_get-get_or leaves (l.page - 1) empty_leaf below ∙ ap Some at)
    leaves (pages_within leaves h) (stands_at leaves empty_leaf h)

pub home_takes : (m : ℕ) (q : Bytes) (leaves : List Leaf) → AreLeaves m leaves → TakesKey q leaves (home q leaves).page
home_takes m q leaves a =
    subst (λ (o : Option Leaf). IsSomeAnd o (HasGreatestLow q leaves))
    (sym (home-all (λ l. leaf_at l.page leaves ≡ Some l) q leaves a.first (each_at leaves a.pages)))
    (home-low q leaves a.first, home-max q leaves)

-- ---- what a search in the index says

module _ (m : ℕ) (q : Bytes) (leaves : List Leaf) (a : AreLeaves m leaves) (got : Bytes → Option ℕ)
    (index : (k : Bytes) → got k ≡ find order k (lows_of (drop 1 leaves))) where
  pub no_low_is_first : HasNoLow got q → 1 ≡ (home q leaves).page
  no_low_is_first none = none_below_is_first m q leaves a (λ low u. sym (index low) ∙ none low u)

  pub greatest_is_home : (page : ℕ) → IsGreatestLow got q page → page ≡ (home q leaves).page
  greatest_is_home page g =
      last_below m q g.low page leaves a g.upto (sym (index g.low) ∙ g.its)
      (λ k u some. g.greatest k u (subst (λ (o : Option ℕ). IsSome o) (sym (index k)) some))

-- the page of a home is the page of a leaf
pub home_within : (m : ℕ) (q : Bytes) (leaves : List Leaf) → AreLeaves m leaves → (1 ≤ (home q leaves).page) × ((home q leaves).page ≤ length leaves)
home_within m q leaves a = home-all (λ l. (1 ≤ l.page) × (l.page ≤ length leaves)) q leaves a.first (pages_within leaves a.pages)
