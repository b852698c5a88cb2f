-- A key that a page has, or that lies between two of its keys, has that page as its home.

use Rattle.std.proofs.Common.{◌≡◌, ℕ, zero, suc, ◌<◌, ◌≤◌, false, true, Some, None, Result, Ok, Err, List, [], ◌∷◌, length, refl, sym, ap, subst}
use Rattle.std.proofs.Common.{arith, if◌then◌else◌}
use Rattle.std.specs.Prelude.{slice_get}
use Rattle.std.specs.List.{AllByRecursion as All}
use Rattle.std.specs.Ordering.{is_lt}
use Rattle.std.specs.FinMap.Entries.{by_order}
use Rattle.std.specs.declared.cmp.Ordering.TheVariants.{Less, Equal, Greater}
use Rattle.bw_record.specs.declared.leaf.Leaf.{Leaf}
use Rattle.bw_record.proofs.Order.{Below, UpTo, upto-trans, below-trans, order-same}
use Rattle.bw_page.specs.Laws.{LiesBetween}
use Rattle.bw_leaf.specs.Changed.{Bytes, Pairs, order}
use Rattle.bw_page.specs.Leaves.{home, leaf_at, AreLeaves}
use Rattle.bw_leaf.specs.Seek.{seek_of, passed, IsBetween}
use Rattle.bw_page.specs.Shown.{Shown, leaf_here, is_evicted_page}
use Rattle.bw_page.proofs.Homes.{home-max, is_home}
use Rattle.bw_page.proofs.PageByPage.{leaf_page}
use Rattle.bw_page.proofs.Ranges.{between_home, homes_ranges}
use Rattle.bw_leaf.proofs.Sorted.{all-map}

-- what holds of each element holds of the one at an index
pub all-get : {X : Type 0} (P : X → Type 0) (xs : List X) (i : ℕ) (x : X) → All P xs → slice_get xs i ≡ Some x → P x
all-get P [] i x h e = absurd cc
all-get {X} P (y ∷ ys) zero x h e = (let same : y ≡ x = cc in subst P same h.0)
all-get P (y ∷ ys) (suc i) x h e = all-get P ys i x h.1 e

-- ---- where a search ended

-- before the last pair, or at it
abbrev IsUnder : ℕ → Result ℕ ℕ → Type 0
IsUnder n (Ok at) = Unit {0}
IsUnder n (Err at) = at < n

between_under : (n : ℕ) (s : Result ℕ ℕ) → IsBetween n s → IsUnder n s
between_under n (Ok at) h = tt
between_under n (Err at) h = h.1

under_passed : (n : ℕ) (s : Result ℕ ℕ) → IsUnder (suc n) (passed 1 s) → IsUnder n s
under_passed n (Ok at) h = tt
under_passed n (Err at) h = omega arith

-- a bound that no pair is below is not above a key between them
from_low : (low q : Bytes) (ps : Pairs) → All (λ p. UpTo low p.0) ps → IsBetween (length ps) (seek_of q ps) → UpTo low q
from_low low q [] h b = (let k : 1 ≤ 0 = b.0 in absurd (omega arith))
from_low low q (p ∷ ps) h b =
    elim (order q p.0) as (λ o. order q p.0 ≡ o
    → IsBetween (length (p ∷ ps)) (by_order o (Err 0) (Ok 0) (passed 1 (seek_of q ps))) → UpTo low q) [
      | Less ↦ λ e k. let none : 1 ≤ 0 = k.0 in absurd (omega arith)
      | Equal ↦ λ e k. subst (UpTo low) (sym (order-same q p.0 e)) h.0
      | Greater ↦ λ e k. upto-trans low p.0 q h.0 (ap is_lt e)
    ] refl b

-- a bound that each pair is below is above such a key
below_high : (high q : Bytes) (ps : Pairs) → All (λ p. Below p.0 high) ps → IsUnder (length ps) (seek_of q ps) → Below q high
below_high high q [] h b = (let k : 0 < 0 = b in absurd (omega arith))
below_high high q (p ∷ ps) h b =
    elim (order q p.0) as (λ o. order q p.0 ≡ o
    → IsUnder (length (p ∷ ps)) (by_order o (Err 0) (Ok 0) (passed 1 (seek_of q ps))) → Below q high) [
      | Less ↦ λ e k. below-trans q p.0 high (ap is_lt e) h.0
      | Equal ↦ λ e k. subst (λ (x : Bytes). Below x high) (sym (order-same q p.0 e)) h.0
      | Greater ↦ λ e k. below_high high q ps h.1 (under_passed (length ps) (seek_of q ps) k)
    ] refl b

-- the same of the greater lows of all leaves
below_lows : (low q : Bytes) (ps : Pairs) (ls : List Leaf) → All (λ p. All (λ l. Below low l.low → Below p.0 l.low) ls) ps
    → IsUnder (length ps) (seek_of q ps) → All (λ l. Below low l.low → Below q l.low) ls
below_lows low q ps [] h b = tt
below_lows low q ps (l ∷ ls) h b = (
  λ over. below_high l.low q ps (all-map (λ p. (Below low l.low → Below p.0 l.low) × All (λ k. Below low k.low → Below p.0 k.low) ls)
      (λ p. Below p.0 l.low) (λ p x. x.0 over) ps h) b,
  below_lows low q ps ls (all-map (λ p. (Below low l.low → Below p.0 l.low) × All (λ k. Below low k.low → Below p.0 k.low) ls)
      (λ p. All (λ k. Below low k.low → Below p.0 k.low) ls) (λ p x. x.1) ps h) b,
)

lies : (leaves : List Leaf) (l : Leaf) (q : Bytes) → All (λ p. LiesBetween leaves l p.0) l.pairs → IsBetween (length l.pairs) (seek_of q l.pairs)
    → LiesBetween leaves l q
lies leaves l q h b = (
  from_low l.low q l.pairs (all-map (λ p. LiesBetween leaves l p.0) (λ p. UpTo l.low p.0) (λ p x. x.0) l.pairs h) b,
  below_lows l.low q l.pairs leaves (all-map (λ p. LiesBetween leaves l p.0) (λ p. All (λ k. Below l.low k.low → Below p.0 k.low) leaves)
      (λ p x. x.1) l.pairs h) (between_under (length l.pairs) (seek_of q l.pairs) b),
)

-- ---- the page's number, and the page itself

in_lists : (m : ℕ) (leaves : List Leaf) (n : ℕ) (l : Leaf) (q : Bytes) → AreLeaves m leaves → slice_get leaves n ≡ Some l
    → IsBetween (length l.pairs) (seek_of q l.pairs) → l ≡ home q leaves
in_lists m leaves n l q a e b =
    let ranged = homes_ranges m leaves a in
    let inside = all-get (λ x. All (λ p. LiesBetween leaves x p.0) x.pairs) leaves n l ranged.ranges e in
    let max = all-get (λ x. UpTo x.low q → UpTo x.low (home q leaves).low) leaves n l (home-max q leaves) e in
    let own = all-get (λ x. All (λ y. x.low ≡ y.low → x.page ≡ y.page) leaves) leaves n l a.lows e in
    let page = between_home leaves l q a.first (lies leaves l q inside b) max own in
    all-get (λ x. x.page ≡ (home q leaves).page → x ≡ home q leaves) leaves n l (is_home leaves q a.first a.pages) e (sym page)

pub hinted_home : (m : ℕ) (leaves : List Leaf) (page : ℕ) (l : Leaf) (q : Bytes) → AreLeaves m leaves → leaf_at page leaves ≡ Some l
    → IsBetween (length l.pairs) (seek_of q l.pairs) → (l.page ≡ page) × (l ≡ home q leaves)
hinted_home m leaves zero l q a e b = absurd cc
hinted_home m leaves (suc n) l q a e b = (leaf_page (suc n) leaves l a.pages e, in_lists m leaves n l q a e b)

-- a leaf that is here stands in the list
pub stands_here : (page : ℕ) (f : Shown) (l : Leaf) → Some l ≡ leaf_here page f → leaf_at page f.leaves ≡ Some l
stands_here page f l e =
    elim (is_evicted_page page f) as (λ b. Some l ≡ (if b then None else leaf_at page f.leaves) → leaf_at page f.leaves ≡ Some l) [
      | true ↦ λ k. absurd cc
      | false ↦ λ k. sym k
    ] e
