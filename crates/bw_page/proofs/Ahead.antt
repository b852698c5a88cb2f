-- A walk in the order of keys, page by page in the order of lows, finds the first pair at or above a key.

use Rattle.std.proofs.Common.{◌≡◌, ℕ, ◌+◌, ◌≤◌, true, false, cond, if◌then◌else◌, Option, Some, None, IsSome, IfSome, List, [], ◌∷◌, drop}
use Rattle.std.proofs.Common.{refl, sym, ap, ◌∙◌, subst, arith}
use Rattle.std.specs.List.{AllByRecursion as All}
use Rattle.std.specs.Ordering.{eq_by_cmp}
use Rattle.std.specs.FinMap as finite
use Rattle.std.specs.FinMap.Entries.{find}
use Rattle.bw_record.specs.Keys.{is_below}
use Rattle.bw_codec.specs.Grammar.{IsBase}
use Rattle.bw_record.specs.declared.leaf.Leaf.{Leaf}
use Rattle.bw_record.proofs.Order.{Below, UpTo, not_both, must_be, must_not, upto-trans, upto-refl, upto-antisymm, upto_empty, below-upto, below-trans, below_upto, tied}
use Rattle.bw_leaf.specs.Changed.{Bytes, order}
use Rattle.bw_page.specs.Leaves.{home, union, AtHome, AreLeaves}
use Rattle.bw_page.specs.Lows.{lows_of}
use Rattle.bw_lows.specs.LowHeads.{IsLeastLow, HasNoHigher}
use Rattle.bw_leaf.specs.Above.{pair_above}
use Rattle.bw_page.specs.Ahead.{HasNoPair, IsFirstPair, HasCome, HasNoLowAbove, IsNextLow, ahead}
use Rattle.bw_leaf.proofs.Sorted.{all-map, Rises, ascends_rises}
use Rattle.bw_leaf.proofs.Sought.{above-all, above_from, above_found, above_between, above_none}
use Rattle.bw_page.proofs.Homes.{home-all, home-low, home-max, same_home}
use Rattle.bw_page.proofs.Indexed.{some_either, lows_found}
use Rattle.bw_page.proofs.Law.{get-union}

-- ---- from page to page

module _ (m : ℕ) (leaves : List Leaf) (a : AreLeaves m leaves) where
  -- keys between which no page begins have one home
  pub same_leaf : (q k : Bytes) → UpTo q k → All (λ l. Below q l.low → Below k l.low) leaves → home k leaves ≡ home q leaves
  same_leaf q k u none =
      let over : UpTo (home q leaves).low (home k leaves).low =
      home-all (λ l. UpTo l.low k → UpTo l.low (home k leaves).low) q leaves a.first (home-max k leaves)
      (upto-trans (home q leaves).low q k (home-low q leaves a.first) u) in
      let upto : UpTo (home k leaves).low q = must_not (is_below q (home k leaves).low)
      (λ b. not_both (is_below k (home k leaves).low) (home-all (λ l. Below q l.low → Below k l.low) k leaves a.first none b) (home-low k leaves a.first)) in
      let under : UpTo (home k leaves).low (home q leaves).low =
      home-all (λ l. UpTo l.low q → UpTo l.low (home q leaves).low) k leaves a.first (home-max q leaves) upto in
      let page : (home k leaves).page ≡ (home q leaves).page =
      home-all (λ b. (home k leaves).low ≡ b.low → (home k leaves).page ≡ b.page) q leaves a.first
      (home-all (λ x. All (λ b. x.low ≡ b.low → x.page ≡ b.page) leaves) k leaves a.first a.lows)
      (upto-antisymm (home k leaves).low (home q leaves).low under over) in
      same_home leaves k q a.first a.pages page

  pub rises_at : (q : Bytes) → Rises (home q leaves).pairs
  rises_at q = ascends_rises (home q leaves).pairs (home-all (IsBase m) q leaves a.first a.each).ascends

  -- the home of a pair that stands on a page is that page
  pair_home : (q : Bytes) (p : Bytes × Bytes) → pair_above q (home q leaves).pairs ≡ Some p → home p.0 leaves ≡ home q leaves
  pair_home q p e =
      same_home leaves p.0 q a.first a.pages
      (above-all (λ y. (home y.0 leaves).page ≡ (home q leaves).page) q (home q leaves).pairs p e (home-all (AtHome leaves) q leaves a.first a.homes))

  found_at : (q k : Bytes) (v : Option Bytes) → home k leaves ≡ home q leaves → find order k (home q leaves).pairs ≡ v → finite.get (union leaves) k ≡ v
  found_at q k v same is = get-union m k leaves a ∙ ap (λ (l : Leaf). find order k l.pairs) same ∙ is

  -- a pair of the page that a walk has come to is the first
  pub come_found : (key to : Bytes) (p : Bytes × Bytes) → HasCome (union leaves) key to → pair_above to (home to leaves).pairs ≡ Some p
      → IsFirstPair (union leaves) key p
  come_found key to p come e =
      let from : UpTo to p.0 = above_from to (home to leaves).pairs p e in
      let own : home p.0 leaves ≡ home to leaves = pair_home to p e in
      record {
        its = found_at to p.0 (Some p.1) own (above_found to (home to leaves).pairs p (rises_at to) e);
        from = upto-trans key to p.0 come.upto from;
        none = λ q u b. elim (is_below q to) as (λ t. is_below q to ≡ t → finite.get (union leaves) q ≡ None) [
          | true ↦ λ t. come.none q u t
          | false ↦ λ t.
              let begins : All (λ l. Below to l.low → Below q l.low) leaves =
              all-map (λ l. UpTo l.low p.0 → UpTo l.low (home p.0 leaves).low) (λ l. Below to l.low → Below q l.low)
              (λ l max above. must_be (is_below q l.low) (λ not.
              let low : UpTo l.low (home to leaves).low = subst (λ (h : Leaf). UpTo l.low h.low) own (max (upto-trans l.low q p.0 not (below_upto q p.0 b))) in
              not_both (is_below to l.low) above (upto-trans l.low (home to leaves).low to low (home-low to leaves a.first))))
              leaves (home-max p.0 leaves) in
              found_at to q None (same_leaf to q t begins) (above_between to (home to leaves).pairs p (rises_at to) e q t b)
        ] refl;
      }

  -- if the page has none, the walk comes to the next low
  pub come_further : (key to low : Bytes) → HasCome (union leaves) key to → pair_above to (home to leaves).pairs ≡ None
      → IsNextLow leaves to low → HasCome (union leaves) key low
  come_further key to low come e next = record {
    upto = upto-trans key to low come.upto (below_upto to low next.above);
    none = λ q u b. elim (is_below q to) as (λ t. is_below q to ≡ t → finite.get (union leaves) q ≡ None) [
      | true ↦ λ t. come.none q u t
      | false ↦ λ t. found_at to q None
          (same_leaf to q t (all-map (λ l. Below to l.low → UpTo low l.low) (λ l. Below to l.low → Below q l.low)
          (λ l least above. below-upto q low l.low b (least above)) leaves next.least))
          (above_none to (home to leaves).pairs e q t)
    ] refl;
  }

  -- and if no low follows there is no further pair
  pub come_last : (key to : Bytes) → HasCome (union leaves) key to → pair_above to (home to leaves).pairs ≡ None
      → HasNoLowAbove leaves to → HasNoPair (union leaves) key
  come_last key to come e last q u =
      elim (is_below q to) as (λ t. is_below q to ≡ t → finite.get (union leaves) q ≡ None) [
        | true ↦ λ t. come.none q u t
        | false ↦ λ t. found_at to q None
            (same_leaf to q t (all-map (λ l. UpTo l.low to) (λ l. Below to l.low → Below q l.low) (λ l not is. not_both (is_below to l.low) is not)
            leaves last))
            (above_none to (home to leaves).pairs e q t)
      ] refl

-- a walk begins at its key
pub come_first : (leaves : List Leaf) (key : Bytes) → HasCome (union leaves) key key
come_first leaves key = record { upto = upto-refl key; none = λ q u b. not_both (is_below q key) b u }

-- ---- how many pages are ahead

-- the counts of a list go along with a rule for each of its leaves
ahead_upto : (key low : Bytes) (ls : List Leaf) → Below key low → ahead low ls ≤ ahead key ls
ahead_upto key low [] b = omega arith
ahead_upto key low (l ∷ ls) b =
    let rest = ahead_upto key low ls b in
    elim (is_below low l.low) as (λ s. is_below low l.low ≡ s → (if s then 1 else 0) + ahead low ls ≤ ahead key (l ∷ ls)) [
      | true ↦ λ s. let is : is_below key l.low ≡ true = below-trans key low l.low b s in rw is (omega arith)
      | false ↦ λ s. elim (is_below key l.low) as (λ t. 0 + ahead low ls ≤ (if t then 1 else 0) + ahead key ls) [ true ↦ omega arith | false ↦ omega arith ]
    ] refl

-- one page fewer is ahead of the low of a page than of a key below it
pub ahead_less : (key low : Bytes) (ls : List Leaf) → Below key low → IsSome (find order low (lows_of ls)) → ahead low ls + 1 ≤ ahead key ls
ahead_less key low [] b some = absurd (let no : IsSome {T = ℕ} None = some in cc)
ahead_less key low (l ∷ ls) b some =
    elim (eq_by_cmp order low l.low) as (λ t. eq_by_cmp order low l.low ≡ t → IsSome (cond t (Some l.page) (find order low (lows_of ls)))
    → ahead low (l ∷ ls) + 1 ≤ ahead key (l ∷ ls)) [
      | true ↦ λ t s.
          let same : low ≡ l.low = tied low l.low t in
          let not : is_below low l.low ≡ false = subst (λ (x : Bytes). UpTo x low) same (upto-refl low) in
          let is : is_below key l.low ≡ true = subst (λ (x : Bytes). Below key x) same b in
          let rest = ahead_upto key low ls b in
          rw (not, is) (omega arith)
      | false ↦ λ t s.
          let rest = ahead_less key low ls b s in
          elim (is_below low l.low) as (λ u. is_below low l.low ≡ u → (if u then 1 else 0) + ahead low ls + 1 ≤ ahead key (l ∷ ls)) [
            | true ↦ λ u. let is : is_below key l.low ≡ true = below-trans key low l.low b u in rw is (omega arith)
            | false ↦ λ u. elim (is_below key l.low) as (λ v. 0 + ahead low ls + 1 ≤ (if v then 1 else 0) + ahead key ls)
                [ true ↦ omega arith | false ↦ omega arith ]
          ] refl
    ] refl some

-- ---- the index of lows

found_behind : (low : Bytes) (leaves : List Leaf) → IsSome (find order low (lows_of (drop 1 leaves))) → IsSome (find order low (lows_of leaves))
found_behind low [] some = some
found_behind low (l ∷ ls) some = some_either (eq_by_cmp order low l.low) l.page (find order low (lows_of ls)) some

-- the index has each low above a key
each_got : (m : ℕ) (q : Bytes) (leaves : List Leaf) → AreLeaves m leaves → (got : Bytes → Option ℕ)
    → ((k : Bytes) → got k ≡ find order k (lows_of (drop 1 leaves))) → All (λ l. Below q l.low → IsSome (got l.low)) leaves
each_got m q [] a got index = tt
each_got m q (x ∷ xs) a got index = (
  λ b. not_both (is_below q x.low) b (subst (λ (low : Bytes). UpTo low q) (sym a.first) (upto_empty q)),
  all-map (λ l. IsSome (find order l.low (lows_of xs))) (λ l. Below q l.low → IsSome (got l.low))
      (λ l some b. subst (λ (o : Option ℕ). IsSome o) (sym (index l.low)) some) xs (lows_found xs),
)

module _ (m : ℕ) (q : Bytes) (leaves : List Leaf) (a : AreLeaves m leaves) (got : Bytes → Option ℕ)
    (index : (k : Bytes) → got k ≡ find order k (lows_of (drop 1 leaves))) where
  got_each : All (λ l. Below q l.low → IsSome (got l.low)) leaves
  got_each = each_got m q leaves a got index

  pub next_low : (low : Bytes) → IsLeastLow got q low → IsNextLow leaves q low
  next_low low g = record {
    its = found_behind low leaves (subst (λ (o : Option ℕ). IsSome o) (index low) g.its);
    above = g.above;
    least = all-map (λ l. Below q l.low → IsSome (got l.low)) (λ l. Below q l.low → UpTo low l.low) (λ l some b. g.least l.low b (some b)) leaves got_each;
  }

  pub no_low_above : HasNoHigher got q → HasNoLowAbove leaves q
  no_low_above none =
      all-map (λ l. Below q l.low → IsSome (got l.low)) (λ l. UpTo l.low q)
      (λ l some. must_not (is_below q l.low) (λ b. let no : IsSome {T = ℕ} None = subst (λ (o : Option ℕ). IsSome o) (none l.low b) (some b)
      in absurd (cc))) leaves got_each

pub if_some_map : {X : Type 0} (P Q : X → Type 0) (o : Option X) → ((x : X) → P x → Q x) → IfSome o P → IfSome o Q
if_some_map P Q None f h = tt
if_some_map P Q (Some x) f h = f x h
