-- Homes and ranges say the same of lawful leaves.

use Rattle.std.proofs.Common.{◌≡◌, ℕ, IsTrue, List, [], ◌∷◌, sym, subst}
use Rattle.std.specs.List.{AllByRecursion as All}
use Rattle.bw_record.specs.Keys.{is_below}
use Rattle.bw_record.specs.declared.leaf.Leaf.{Leaf}
use Rattle.bw_record.proofs.Order.{Below, UpTo, not_both, must_be, must_not, upto-antisymm}
use Rattle.bw_leaf.specs.Changed.{Bytes}
use Rattle.bw_page.specs.Leaves.{home, BeginsEmpty, AtHome, AreLeaves}
use Rattle.bw_page.specs.Laws.{LiesBetween, AreRanged, HomesAreRanges}
use Rattle.bw_leaf.proofs.Sorted.{all-map, all-zip}
use Rattle.bw_page.proofs.Homes.{home-all, home-low, home-max, is_home}

all-for_each : {X : Type 0} (P : Bytes → X → Type 0) (xs : List X) → ((q : Bytes) → All (P q) xs) → All (λ x. (q : Bytes) → P q x) xs
all-for_each P [] h = tt
all-for_each P (x ∷ xs) h = (λ q. (h q).0, all-for_each P xs (λ q. (h q).1))

-- a key whose home is a leaf lies in that leaf's range
home_between : (leaves : List Leaf) (q : Bytes) → BeginsEmpty leaves → LiesBetween leaves (home q leaves) q
home_between leaves q b = (
  home-low q leaves b,
  all-map (λ l. UpTo l.low q → UpTo l.low (home q leaves).low) (λ l. Below (home q leaves).low l.low → Below q l.low)
      (λ l max over. must_be (is_below q l.low) (λ from. not_both _ over (max from))) leaves (home-max q leaves),
)

pub homes_ranges : (m : ℕ) (leaves : List Leaf) → AreLeaves m leaves → AreRanged m leaves
homes_ranges m leaves a = record {
  pages = a.pages;
  first = a.first;
  lows = a.lows;
  each = a.each;
  ranges = all-zip (AtHome leaves) (λ l. (q : Bytes) → l.page ≡ (home q leaves).page → l ≡ home q leaves) (λ l. All (λ p. LiesBetween leaves l p.0) l.pairs)
      (λ l at is. all-map (λ p. (home p.0 leaves).page ≡ l.page) (λ p. LiesBetween leaves l p.0)
      (λ p e. subst (λ (x : Leaf). LiesBetween leaves x p.0) (sym (is p.0 (sym e))) (home_between leaves p.0 a.first)) l.pairs at)
      leaves a.homes (all-for_each (λ q l. l.page ≡ (home q leaves).page → l ≡ home q leaves) leaves (λ q. is_home leaves q a.first a.pages));
}

-- a key in a leaf's range has it as its home
pub between_home : (leaves : List Leaf) (l : Leaf) (q : Bytes) → BeginsEmpty leaves → LiesBetween leaves l q → (UpTo l.low q → UpTo l.low (home q leaves).low)
    → All (λ y. l.low ≡ y.low → l.page ≡ y.page) leaves
    → (home q leaves).page ≡ l.page
between_home leaves l q b between max own =
    let over : UpTo l.low (home q leaves).low = max between.0 in
    let under : UpTo (home q leaves).low l.low =
    must_not (is_below l.low (home q leaves).low) (λ more.
    not_both (is_below q (home q leaves).low) (home-all (λ y. IsTrue (is_below l.low y.low) → IsTrue (is_below q y.low)) q leaves b between.1 more)
    (home-low q leaves b)) in
    sym (home-all (λ y. l.low ≡ y.low → l.page ≡ y.page) q leaves b own (upto-antisymm l.low (home q leaves).low over under))

pub ranges_homes : (m : ℕ) (leaves : List Leaf) → AreRanged m leaves → AreLeaves m leaves
ranges_homes m leaves a = record {
  pages = a.pages;
  first = a.first;
  lows = a.lows;
  each = a.each;
  homes = all-zip (λ l. All (λ p. LiesBetween leaves l p.0) l.pairs)
      (λ l. ((q : Bytes) → UpTo l.low q → UpTo l.low (home q leaves).low) × All (λ y. l.low ≡ y.low → l.page ≡ y.page) leaves) (AtHome leaves)
      (λ l between known. all-map (λ p. LiesBetween leaves l p.0) (λ p. (home p.0 leaves).page ≡ l.page)
      (λ p h. between_home leaves l p.0 a.first h (known.0 p.0) known.1) l.pairs between)
      leaves a.ranges
      (all-zip (λ l. (q : Bytes) → UpTo l.low q → UpTo l.low (home q leaves).low) (λ l. All (λ y. l.low ≡ y.low → l.page ≡ y.page) leaves)
      (λ l. ((q : Bytes) → UpTo l.low q → UpTo l.low (home q leaves).low) × All (λ y. l.low ≡ y.low → l.page ≡ y.page) leaves) (λ l x y. (x, y)) leaves
      (all-for_each (λ q l. UpTo l.low q → UpTo l.low (home q leaves).low) leaves (λ q. home-max q leaves)) a.lows);
}

pub homes_are_ranges_lem : HomesAreRanges
homes_are_ranges_lem m leaves = (homes_ranges m leaves, ranges_homes m leaves)
