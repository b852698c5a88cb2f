-- A walk back from page to page finds the last pair of the map at or below a key.

use Rattle.std.proofs.Common.{◌≡◌, ℕ, zero, suc, ◌+◌, ◌-◌, ◌<◌, ◌≤◌, true, false, if◌then◌else◌, cond, Option, Some, None, List, [], ◌∷◌, ◌++◌, length, take, drop, get_or, Result, Ok, Err, refl, sym, ap, ◌∙◌, subst, arith, one-add, ◌⊎◌, inl, inr, replicate, set, length-append}
use Rattle.std.specs.Prelude.{slice_get, IsTrue, IsOk, IfOk, IfSome}
use Rattle.std.specs.Result.{result_ok}
use Rattle.std.specs.List.{AllByRecursion as All}
use Rattle.std.specs.Option.{IsSomeAnd}
use Rattle.std.specs.Ordering.{MatchOrdering, nat_cmp, is_lt, is_gt, eq_by_cmp}
use Rattle.std.specs.Cmp.{ranked}
use Rattle.std.specs.FinMap as finite
use Rattle.std.specs.FinMap.Entries.{find, by_order}
use Rattle.std.specs.declared.cmp.Ordering.TheVariants.{Less, Equal, Greater}
use Rattle.std.proofs.lemmas.List.{take_all, take_more, set_at, drop-replicate, length-replicate}
use Rattle.std.proofs.lemmas.Option.{slice_get-get_or}
use Rattle.bw_record.specs.Keys.{is_below, ascends, IsBytes}
use Rattle.bw_record.specs.declared.leaf.Leaf.{Leaf}
use Rattle.bw_record.proofs.Order.{first_or_rest, below_first, same_first, upto_same, order-same, Below, UpTo, not_both, must_not, itself, upto_empty, upto-refl, upto-trans, upto-antisymm, below-trans, upto-below, below_upto, below_apart, greater_is_below, tied}
use Rattle.bw_leaf.specs.Changed.{Bytes, Pairs, order}
use Rattle.bw_leaf.specs.Seek.{seek_of, passed}
use Rattle.bw_leaf.proofs.Sorted.{all-map, all-zip, all-always, Rises, ascends_rises, find-none}
use Rattle.bw_leaf.proofs.Sought.{skipped}
use Rattle.bw_page.specs.Leaves.{home, leaf_at, union, AtHome, AreLeaves}
use Rattle.bw_page.specs.Shown.{Shown, TakesKey, HasGreatestLow}
use Rattle.bw_page.specs.Ahead.{IsNextLow, HasNoLowAbove}
use Rattle.bw_page.proofs.Hinted.{all-get}
use Rattle.bw_page.proofs.Homes.{home-all, home-low, home-max, is_home}
use Rattle.bw_page.proofs.Law.{get-union}
use Rattle.bw_codec.specs.Grammar.{IsBase}
use Rattle.bw_walks.specs.Back.{IsGreatest, IsGreatestPair, IsInReach, IsLastOn, TellsOn, TellsOfPage, IsNextBelow, IsLeafBefore, IsPageBefore, HasComeTo, count_of, behind, behind_leaf}
use Rattle.bw_walks.specs.declared.back.Look.{Look}
use Rattle.bw_walks.specs.declared.back.Look.TheVariants.{Before}
use Rattle.bw_walks.specs.declared.back.Reach.{Reach}
use Rattle.bw_walks.specs.declared.back.Reach.TheVariants.{With, Without}

-- ---- the greatest key below another

-- so many of the greatest byte
abbrev pub filled : ℕ → Bytes
filled n = replicate n 255

-- no list of so many bytes is above them
upto_filled : (n : ℕ) (q : Bytes) → IsBytes q → length q ≤ n → UpTo q (filled n)
upto_filled n [] bytes few = upto_empty (filled n)
upto_filled zero (x ∷ xs) bytes few = absurd (omega arith)
upto_filled (suc n) (x ∷ xs) bytes few =
    let fits : x < 256 = bytes 0 in
    let rest = upto_filled n xs (λ i. bytes (suc i)) (omega arith) in
    elim (nat_cmp x 255) as (λ o. MatchOrdering o (x < 255) (x ≡ 255) (255 < x) → UpTo (x ∷ xs) (255 ∷ filled n)) [
      | Less ↦ λ less. below_upto (x ∷ xs) (255 ∷ filled n) (below_first x 255 xs (filled n) less)
      | Equal ↦ λ same. upto_same x 255 xs (filled n) same rest
      | Greater ↦ λ more. absurd (omega arith)
    ] (ranked x 255 (nat_cmp x 255) refl)

-- a key without its last byte is below it
below_longer : (front : Bytes) (b : ℕ) → Below front (front ++ b ∷ [])
below_longer [] b = refl
below_longer (x ∷ xs) b = same_first x x xs (xs ++ b ∷ []) refl ∙ below_longer xs b

-- and if that byte is 0, nothing is between
none_above_front : (front q : Bytes) → Below q (front ++ 0 ∷ []) → UpTo q front
none_above_front front [] b = upto_empty front
none_above_front [] (y ∷ ys) b = elim (first_or_rest y 0 ys [] b) [ inl less ↦ absurd (omega arith) | inr same ↦ not_both (is_below ys []) same.1 (upto_empty ys) ]
none_above_front (x ∷ xs) (y ∷ ys) b =
    elim (first_or_rest y x ys (xs ++ 0 ∷ []) b) [
      | inl less ↦ below_upto (y ∷ ys) (x ∷ xs) (below_first y x ys xs less)
      | inr same ↦ upto_same y x ys xs same.0 (none_above_front xs ys same.1)
    ]

-- a key with a lesser last byte is below it, whatever follows
below_less : (front rest : Bytes) (b : ℕ) → Below (front ++ b ∷ rest) (front ++ suc b ∷ [])
below_less [] rest b = below_first b (suc b) rest [] (omega arith)
below_less (x ∷ xs) rest b = same_first x x (xs ++ b ∷ rest) (xs ++ suc b ∷ []) refl ∙ below_less xs rest b

-- and if the greatest bytes follow, nothing is between
none_above_filled : (front q : Bytes) (b n : ℕ) → IsBytes q → length q ≤ length front + 1 + n → Below q (front ++ suc b ∷ []) → UpTo q (front ++ b ∷ filled n)
none_above_filled front [] b n bytes few h = upto_empty (front ++ b ∷ filled n)
none_above_filled [] (y ∷ ys) b n bytes few h =
    let rest = upto_filled n ys (λ i. bytes (suc i)) (omega arith) in
    elim (first_or_rest y (suc b) ys [] h) [
      | inl less ↦ elim (nat_cmp y b) as (λ o. MatchOrdering o (y < b) (y ≡ b) (b < y) → UpTo (y ∷ ys) (b ∷ filled n)) [
        | Less ↦ λ l. below_upto (y ∷ ys) (b ∷ filled n) (below_first y b ys (filled n) l)
        | Equal ↦ λ same. upto_same y b ys (filled n) same rest
        | Greater ↦ λ more. absurd (omega arith)
      ] (ranked y b (nat_cmp y b) refl)
      | inr same ↦ not_both (is_below ys []) same.1 (upto_empty ys)
    ]
none_above_filled (x ∷ xs) (y ∷ ys) b n bytes few h =
    elim (first_or_rest y x ys (xs ++ suc b ∷ []) h) [
      | inl less ↦ below_upto (y ∷ ys) (x ∷ xs ++ b ∷ filled n) (below_first y x ys (xs ++ b ∷ filled n) less)
      | inr same ↦ upto_same y x ys (xs ++ b ∷ filled n) same.0 (none_above_filled xs ys b n (λ i. bytes (suc i)) (omega arith) same.1)
    ]

-- a key that ends with 0: its front is next below it, or there is none
pub front_next : (key front : Bytes) → key ≡ front ++ 0 ∷ [] → IsNextBelow key front
front_next key front e =
    subst (λ (k : Bytes). IsNextBelow k front) (sym e) (record { below = below_longer front 0; last = λ q bytes few b. none_above_front front q b })

pub only_empty : (key q : Bytes) → key ≡ 0 ∷ [] → Below q key → q ≡ []
only_empty key q e b = upto-antisymm q [] (none_above_front [] q (subst (λ (k : Bytes). Below q k) e b)) (upto_empty q)

-- a key that ends with another byte
pub filled_next : (key front before : Bytes) (b n : ℕ) → key ≡ front ++ suc b ∷ [] → before ≡ front ++ b ∷ filled n → length front + 1 + n ≡ 128
    → IsNextBelow key before
filled_next key front before b n e f long =
    subst (λ (k : Bytes). IsNextBelow k before) (sym e) (subst (λ (k : Bytes). IsNextBelow (front ++ suc b ∷ []) k) (sym f) (record {
      below = below_less front (filled n) b;
      last = λ q bytes few h. none_above_filled front q b n bytes (omega arith) h;
    }))

-- ---- the last pair of a page

pub within_upto : (reach : Reach) (key q : Bytes) → IsInReach reach key q → UpTo q key
within_upto With key q w = w
within_upto Without key q w = below_upto q key w

below_within : (reach : Reach) (key q : Bytes) → Below q key → IsInReach reach key q
below_within With key q b = below_upto q key b
below_within Without key q b = b

-- the pair before a place
abbrev pub pair_before : ℕ → Pairs → Option (Bytes × Bytes)
pair_before zero ps = None
pair_before (suc n) ps = slice_get ps n

count_passed : (s : Result ℕ ℕ) (reach : Reach) → count_of (passed 1 s) reach ≡ suc (count_of s reach)
count_passed (Ok at) With = ap (λ (n : ℕ). suc n) (one-add at)
count_passed (Ok at) Without = one-add at
count_passed (Err at) With = one-add at
count_passed (Err at) Without = one-add at

last_behind : (reach : Reach) (key : Bytes) (p : Bytes × Bytes) (ps : Pairs) (n : ℕ) → Below p.0 key → All (λ q. Below p.0 q.0) ps → n ≤ length ps
    → IsLastOn reach key ps (pair_before n ps) → IsLastOn reach key (p ∷ ps) (slice_get (p ∷ ps) n)
last_behind reach key p ps zero b r few h = record {
  its = ap (λ t. cond t (Some p.1) (find order p.0 ps)) (itself p.0);
  meant = below_within reach key p.0 b;
  none = λ q w above. skipped q p ps above ∙ h q w;
}
last_behind reach key p ps (suc k) b r few h =
    elim (slice_get ps k) as (λ o. slice_get ps k ≡ o → IsLastOn reach key ps o → IsLastOn reach key (p ∷ ps) o) [
      | None ↦ λ e none. absurd (let some = slice_get-get_or ps k p (omega arith) in cc)
      | Some x ↦ λ e last.
          let above : Below p.0 x.0 = all-get (λ (y : Bytes × Bytes). Below p.0 y.0) ps k x r e in
          record {
            its = skipped x.0 p ps above ∙ last.its;
            meant = last.meant;
            none = λ q w more. skipped q p ps (below-trans p.0 x.0 q above more) ∙ last.none q w more;
          }
    ] refl h

none_within : (reach : Reach) (key q : Bytes) (p : Bytes × Bytes) (ps : Pairs) → UpTo q key → Below key p.0 → All (λ y. Below p.0 y.0) ps
    → find order q (p ∷ ps) ≡ None
none_within reach key q p ps u b r =
    let under : Below q p.0 = upto-below q key p.0 u b in
    find-none q (p ∷ ps) (
      below_apart q p.0 under,
      all-map (λ y. Below p.0 y.0) (λ y. eq_by_cmp order q y.0 ≡ false) (λ y h. below_apart q y.0 (below-trans q p.0 y.0 under h)) ps r,
    )

-- if the search ended at a pair with the key itself
last_at : (reach : Reach) (key : Bytes) (p : Bytes × Bytes) (ps : Pairs) → key ≡ p.0 → All (λ y. Below p.0 y.0) ps
    → IsLastOn reach key (p ∷ ps) (pair_before (count_of (Ok 0) reach) (p ∷ ps))
last_at With key p ps same r = record {
  its = ap (λ t. cond t (Some p.1) (find order p.0 ps)) (itself p.0);
  meant = subst (λ (k : Bytes). UpTo p.0 k) (sym same) (upto-refl p.0);
  none = λ q w above. not_both (is_below p.0 q) above (subst (λ (k : Bytes). UpTo q k) same w);
}
last_at Without key p ps same r = λ q w.
    let under : Below q p.0 = subst (λ (k : Bytes). Below q k) same w in
    find-none q (p ∷ ps) (
      below_apart q p.0 under,
      all-map (λ y. Below p.0 y.0) (λ y. eq_by_cmp order q y.0 ≡ false) (λ y h. below_apart q y.0 (below-trans q p.0 y.0 under h)) ps r,
    )

-- the pair before the place that a search finds is the last within reach
pub last_sought : (reach : Reach) (key : Bytes) (ps : Pairs) → Rises ps → count_of (seek_of key ps) reach ≤ length ps
    → IsLastOn reach key ps (pair_before (count_of (seek_of key ps) reach) ps)
last_sought reach key [] r few = λ q w. refl
last_sought reach key (p ∷ ps) r few =
    elim (order key p.0) as (λ o. order key p.0 ≡ o
    → count_of (by_order o (Err 0) (Ok 0) (passed 1 (seek_of key ps))) reach ≤ length (p ∷ ps)
    → IsLastOn reach key (p ∷ ps) (pair_before (count_of (by_order o (Err 0) (Ok 0) (passed 1 (seek_of key ps))) reach) (p ∷ ps))) [
      | Less ↦ λ e le q w. none_within reach key q p ps (within_upto reach key q w) (ap is_lt e) r.0
      | Equal ↦ λ e le. last_at reach key p ps (order-same key p.0 e) r.0
      | Greater ↦ λ e le.
          let more : count_of (passed 1 (seek_of key ps)) reach ≡ suc (count_of (seek_of key ps) reach) = count_passed (seek_of key ps) reach in
          let within : count_of (seek_of key ps) reach ≤ length ps = omega arith in
          subst (λ (n : ℕ). IsLastOn reach key (p ∷ ps) (pair_before n (p ∷ ps))) (sym more)
          (last_behind reach key p ps (count_of (seek_of key ps) reach) (sym (greater_is_below key p.0) ∙ ap is_gt e) r.0 within
          (last_sought reach key ps r.1 within))
    ] refl few

-- ---- the page before

pub all_at : (P : Leaf → Type 0) (page : ℕ) (leaves : List Leaf) (leaf : Leaf) → All P leaves → leaf_at page leaves ≡ Some leaf → P leaf
all_at P zero leaves leaf all e = absurd cc
all_at P (suc n) leaves leaf all e = all-get P leaves n leaf all e

-- what a key next below a low takes is the page before
pub taken_before : (leaves : List Leaf) (low last : Bytes) (page : ℕ) → IsNextBelow low last → All (λ l. Below l.low low → UpTo l.low last) leaves
    → TakesKey last leaves page → IsPageBefore leaves low page
taken_before leaves low last page next all takes =
    elim (leaf_at page leaves) as (λ o. IsSomeAnd o (HasGreatestLow last leaves) → IsSomeAnd o (IsLeafBefore leaves low)) [
      | None ↦ λ h. absurd h
      | Some leaf ↦ λ h. record {
        below = upto-below leaf.low last low h.0 next.below;
        greatest = all-zip (λ l. Below l.low low → UpTo l.low last) (λ l. UpTo l.low last → UpTo l.low leaf.low) (λ l. Below l.low low → UpTo l.low leaf.low)
            (λ l upto most b. most (upto b)) leaves all h.1;
      }
    ] takes

pub none_between : (leaves : List Leaf) (low last next : Bytes) → IsNextBelow low last → IsNextLow leaves last next → IsBytes next → length next ≤ 128
    → All (λ l. Below l.low low → UpTo l.low last) leaves
none_between leaves low last next n ahead bytes few =
    all-map (λ l. Below last l.low → UpTo next l.low) (λ l. Below l.low low → UpTo l.low last)
    (λ l least b. must_not (is_below last l.low) (λ t. not_both (is_below last next) ahead.above (n.last next bytes few (upto-below next l.low low (least t) b))))
    leaves ahead.least

pub none_above : (leaves : List Leaf) (low last : Bytes) → HasNoLowAbove leaves last → All (λ l. Below l.low low → UpTo l.low last) leaves
none_above leaves low last none = all-map (λ l. UpTo l.low last) (λ l. Below l.low low → UpTo l.low last) (λ l u b. u) leaves none

pub first_before : (m : ℕ) (leaves : List Leaf) (low : Bytes) → AreLeaves m leaves → low ≡ 0 ∷ [] → IsPageBefore leaves low 1
first_before m [] low a e = absurd a.first
first_before m (l ∷ ls) low a e = record {
  below = subst (λ (k : Bytes). Below k low) (sym a.first) (subst (λ (k : Bytes). Below [] k) (sym e) refl);
  greatest = all-always (λ y. Below y.low low → UpTo y.low l.low)
      (λ y b. subst (λ (k : Bytes). UpTo k l.low) (sym (only_empty low y.low e b)) (upto_empty l.low)) (l ∷ ls);
}

-- ---- from page to page

found_own : (P : Bytes → Type 0) (ps : Pairs) (k v : Bytes) → All (λ p. P p.0) ps → find order k ps ≡ Some v → P k
found_own P [] k v all e = absurd cc
found_own P (p ∷ ps) k v all e =
    elim (eq_by_cmp order k p.0) as (λ t. eq_by_cmp order k p.0 ≡ t → cond t (Some p.1) (find order k ps) ≡ Some v → P k) [
      | true ↦ λ t s. subst P (sym (tied k p.0 t)) all.0
      | false ↦ λ t s. found_own P ps k v all.1 s
    ] refl e

module _ (m : ℕ) (leaves : List Leaf) (a : AreLeaves m leaves) where
  -- a greater key has no lesser home
  homes_rise : (p q : Bytes) → UpTo p q → UpTo (home p leaves).low (home q leaves).low
  homes_rise p q u =
      home-all (λ l. UpTo l.low q → UpTo l.low (home q leaves).low) p leaves a.first (home-max q leaves)
      (upto-trans (home p leaves).low p q (home-low p leaves a.first) u)

  pub come_first : (reach : Reach) (key : Bytes) → HasComeTo (union leaves) leaves reach key (home key leaves)
  come_first reach key q w b = not_both (is_below (home key leaves).low (home q leaves).low) b (homes_rise q key (within_upto reach key q w))

  module _ (page : ℕ) (leaf : Leaf) (at : leaf_at page leaves ≡ Some leaf) where
    -- the leaf of a page that a key belongs to
    own_page : (q : Bytes) → (home q leaves).page ≡ leaf.page → home q leaves ≡ leaf
    own_page q same = sym (all_at (λ l. l.page ≡ (home q leaves).page → l ≡ home q leaves) page leaves leaf (is_home leaves q a.first a.pages) at (sym same))

    own_low : (q : Bytes) → (home q leaves).low ≡ leaf.low → home q leaves ≡ leaf
    own_low q same =
        own_page q (all_at (λ b. (home q leaves).low ≡ b.low → (home q leaves).page ≡ b.page) page leaves leaf
        (home-all (λ x. All (λ b. x.low ≡ b.low → x.page ≡ b.page) leaves) q leaves a.first a.lows) at same)

    on_page : (q : Bytes) → home q leaves ≡ leaf → finite.get (union leaves) q ≡ find order q leaf.pairs
    on_page q own = get-union m q leaves a ∙ ap (λ (l : Leaf). find order q l.pairs) own

    module _ (reach : Reach) (key : Bytes) (come : HasComeTo (union leaves) leaves reach key leaf) where
      -- a key within reach from the page's low on has a value there, or none
      from_low : (q : Bytes) → IsInReach reach key q → UpTo leaf.low (home q leaves).low → find order q leaf.pairs ≡ None → finite.get (union leaves) q ≡ None
      from_low q w u none =
          elim (is_below leaf.low (home q leaves).low) as (λ t. is_below leaf.low (home q leaves).low ≡ t → finite.get (union leaves) q ≡ None) [
            | true ↦ λ t. come q w t
            | false ↦ λ t. on_page q (own_low q (upto-antisymm (home q leaves).low leaf.low t u)) ∙ none
          ] refl

      pub come_found : (pair : Bytes × Bytes) → IsGreatestPair (λ q. find order q leaf.pairs) (IsInReach reach key) pair
          → IsGreatestPair (λ q. finite.get (union leaves) q) (IsInReach reach key) pair
      come_found pair last =
          let own : home pair.0 leaves ≡ leaf =
          own_page pair.0 (found_own (λ k. (home k leaves).page ≡ leaf.page) leaf.pairs pair.0 pair.1 (all_at (AtHome leaves) page leaves leaf a.homes at) last.its) in
          record {
            its = on_page pair.0 own ∙ last.its;
            meant = last.meant;
            none = λ q w b.
                from_low q w (subst (λ (l : Leaf). UpTo l.low (home q leaves).low) own (homes_rise pair.0 q (below_upto pair.0 q b))) (last.none q w b);
          }

      pub come_further : (before : Leaf) → IsLastOn reach key leaf.pairs None → IsLeafBefore leaves leaf.low before → HasComeTo (union leaves) leaves reach key before
      come_further before none is q w b =
          from_low q w
          (must_not (is_below (home q leaves).low leaf.low) (λ t. not_both (is_below before.low (home q leaves).low) b
          (home-all (λ l. Below l.low leaf.low → UpTo l.low before.low) q leaves a.first is.greatest t)))
          (none q w)

      pub come_last : IsLastOn reach key leaf.pairs None → leaf.low ≡ [] → IsGreatest (λ q. finite.get (union leaves) q) (IsInReach reach key) None
      come_last none first q w = from_low q w (subst (λ (k : Bytes). UpTo k (home q leaves).low) (sym first) (upto_empty (home q leaves).low)) (none q w)

-- ---- how many pages are behind

behind_upto : (low key : Bytes) (ls : List Leaf) → Below low key → behind low ls ≤ behind key ls
behind_upto low key [] b = omega arith
behind_upto low key (l ∷ ls) b =
    let rest = behind_upto low key ls b in
    elim (is_below l.low low) as (λ s. is_below l.low low ≡ s → (if s then 1 else 0) + behind low ls ≤ behind key (l ∷ ls)) [
      | true ↦ λ s. let is : is_below l.low key ≡ true = below-trans l.low low key s b in rw is (omega arith)
      | false ↦ λ s. elim (is_below l.low key) as (λ t. 0 + behind low ls ≤ (if t then 1 else 0) + behind key ls) [ true ↦ omega arith | false ↦ omega arith ]
    ] refl

behind_less : (key : Bytes) (ls : List Leaf) (i : ℕ) (leaf : Leaf) → Below leaf.low key → slice_get ls i ≡ Some leaf → behind leaf.low ls + 1 ≤ behind key ls
behind_less key [] i leaf b e = absurd cc
behind_less key (l ∷ ls) zero leaf b e =
    let same : l ≡ leaf = cc in
    let not : is_below l.low leaf.low ≡ false = subst (λ (x : Leaf). UpTo leaf.low x.low) (sym same) (upto-refl leaf.low) in
    let is : is_below l.low key ≡ true = subst (λ (x : Leaf). Below x.low key) (sym same) b in
    let rest = behind_upto leaf.low key ls b in
    rw (not, is) (omega arith)
behind_less key (l ∷ ls) (suc i) leaf b e =
    let rest = behind_less key ls i leaf b e in
    elim (is_below l.low leaf.low) as (λ s. is_below l.low leaf.low ≡ s → (if s then 1 else 0) + behind leaf.low ls + 1 ≤ behind key (l ∷ ls)) [
      | true ↦ λ s. let is : is_below l.low key ≡ true = below-trans l.low leaf.low key s b in rw is (omega arith)
      | false ↦ λ s. elim (is_below l.low key) as (λ t. 0 + behind leaf.low ls + 1 ≤ (if t then 1 else 0) + behind key ls) [ true ↦ omega arith | false ↦ omega arith ]
    ] refl

pub fewer_behind : (key : Bytes) (leaves : List Leaf) (page : ℕ) (leaf : Leaf) → Below leaf.low key → leaf_at page leaves ≡ Some leaf
    → behind leaf.low leaves < behind key leaves
fewer_behind key leaves zero leaf b e = absurd cc
fewer_behind key leaves (suc n) leaf b e = let less = behind_less key leaves n leaf b e in omega arith

-- ---- what functions answer

-- bytes in front of the last one
pub split_last : (key : Bytes) → 1 ≤ length key → key ≡ take (length key - 1) key ++ get_or key (length key - 1) 0 ∷ []
split_last key some =
    let n = length key - 1 in
    let whole : take (length key - 1 + 1) key ≡ key = take_all (length key - 1 + 1) key (omega arith) in
    sym whole ∙ take_more key (length key - 1) 0 (omega arith)

-- a row of the greatest byte, with a front and a byte after it written over
written_over : (mid front row rest : Bytes) (x at b : ℕ) → mid ≡ front → length front ≡ at → drop at row ≡ x ∷ rest
    → set (mid ++ drop at row) at b ≡ front ++ b ∷ rest
written_over mid front row rest x at b same long e =
    ap (λ (xs : Bytes). set (xs ++ drop at row) at b) same ∙ ap (λ (xs : Bytes). set (front ++ xs) at b) e ∙ set_at front x rest b at long

rest_of_row : (at : ℕ) → at < 128 → drop at (filled 128) ≡ 255 ∷ filled (127 - at)
rest_of_row at within = drop-replicate at 128 255 ∙ ap (λ (n : ℕ). filled n) (let more : 128 - at ≡ suc (127 - at) = omega arith in more)

pub filled_over : (mid front : Bytes) (at b : ℕ) → mid ≡ front → length front ≡ at → at < 128
    → set (mid ++ drop at (filled 128)) at b ≡ front ++ b ∷ filled (127 - at)
filled_over mid front at b same long within = written_over mid front (filled 128) (filled (127 - at)) 255 at b same long (rest_of_row at within)

pub filled_long : (mid front : Bytes) (at b : ℕ) → mid ≡ front → length front ≡ at → at < 128 → length (set (mid ++ drop at (filled 128)) at b) ≡ 128
filled_long mid front at b same long within =
    ap (λ (xs : Bytes). length xs) (filled_over mid front at b same long within) ∙ length-append front (b ∷ filled (127 - at))
    ∙ omega (arith, length-replicate {A = ℕ} (127 - at) 255)

pub made_some : {E : Type 0} (key made : Bytes) (r : Result Bytes E) (o : Option Bytes) → o ≡ result_ok r → IfOk r (λ k. k ≡ made) → IsNextBelow key made
    → IfSome o (λ last. IsNextBelow key last)
made_some key made (Ok k) o e is next =
    subst (λ (x : Option Bytes). IfSome x (λ last. IsNextBelow key last)) (sym e) (subst (λ (x : Bytes). IsNextBelow key x) (sym is) next)
made_some key made (Err f) o e is next = subst (λ (x : Option Bytes). IfSome x (λ last. IsNextBelow key last)) (sym e) tt

-- no key was made
pub not_made : {E X : Type 0} (r : Result Bytes E) (o : Option Bytes) → o ≡ result_ok r → o ≡ None → IsOk r → X
not_made (Ok k) o e none ok = absurd cc
not_made (Err f) o e none ok = absurd (let no : IsOk {T = Bytes} (Err f) = ok in cc)

pub last_counted : (reach : Reach) (key : Bytes) (ps : Pairs) (n : ℕ) → IsTrue (ascends ps) → n ≡ count_of (seek_of key ps) reach → n ≤ length ps
    → IsLastOn reach key ps (pair_before n ps)
last_counted reach key ps n r e few =
    subst (λ (k : ℕ). IsLastOn reach key ps (pair_before k ps)) (sym e) (last_sought reach key ps (ascends_rises ps r) (omega arith))

pub pair_there : (n : ℕ) (ps : Pairs) (p : Bytes × Bytes) → (n ≡ 0 → ⊥) → n ≤ length ps → p ≡ get_or ps (n - 1) p → pair_before n ps ≡ Some p
pair_there zero ps p some few e = absurd (some refl)
pair_there (suc k) ps p some few e =
    let at : suc k - 1 ≡ k = omega arith in
    slice_get-get_or ps k p (omega arith) ∙ ap Some (ap (λ (i : ℕ). get_or ps i p) (sym at) ∙ sym e)

pub front_or_none : (front : Bytes) → (front ≡ []) ⊎ (1 ≤ length front)
front_or_none [] = inl refl
front_or_none (x ∷ xs) = inr (omega arith)

-- ---- what a look says

pub base_at : (m page : ℕ) (leaves : List Leaf) (leaf : Leaf) → AreLeaves m leaves → leaf_at page leaves ≡ Some leaf → IsBase m leaf
base_at m page leaves leaf a e = all_at (IsBase m) page leaves leaf a.each e

-- what was said of pages that stay, by the look that it was
pub told_as : (reach : Reach) (key : Bytes) (page : ℕ) (was now : Shown) (look is : Look) → was ≡ now → look ≡ is
    → TellsOfPage reach key page was.leaves look → TellsOfPage reach key page now.leaves is
told_as reach key page was now look is same e h =
    subst (λ (f : Shown). TellsOfPage reach key page f.leaves is) same (subst (λ (l : Look). TellsOfPage reach key page was.leaves l) e h)

-- fewer pages lie behind the page before
pub fewer_back : (reach : Reach) (key low : Bytes) (page before : ℕ) (leaves : List Leaf) → TellsOfPage reach key page leaves (Before low)
    → IsPageBefore leaves low before → behind_leaf (leaf_at before leaves) leaves < behind_leaf (leaf_at page leaves) leaves
fewer_back reach key low page before leaves tells is =
    elim (leaf_at page leaves) as (λ o. IsSomeAnd o (λ leaf. TellsOn reach key leaf (Before low)) → behind_leaf (leaf_at before leaves) leaves < behind_leaf o leaves) [
      | None ↦ λ h. absurd h
      | Some leaf ↦ λ h.
          elim (leaf_at before leaves) as (λ o. leaf_at before leaves ≡ o → IsSomeAnd o (IsLeafBefore leaves low) → behind_leaf o leaves < behind leaf.low leaves) [
            | None ↦ λ e none. absurd none
            | Some under ↦ λ e under_is. fewer_behind leaf.low leaves before under (subst (λ (k : Bytes). Below under.low k) h.1 under_is.below) e
          ] refl is
    ] tells
