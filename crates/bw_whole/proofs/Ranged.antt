-- Pages whose pairs ascend one after the other are lawful: each key lies in its page's range.

use Rattle.std.proofs.Common.{◌≡◌, ℕ, ◌+◌, ◌≤◌, ◌==◌, Bool, false, if◌then◌else◌, IsTrue, List, [], ◌∷◌, ◌++◌, length, refl, sym, ap, ◌∙◌, subst, arith}
use Rattle.std.proofs.lemmas.Bool.Decides.{nat_tests}
use Rattle.std.specs.List.{AllByRecursion as All}
use Rattle.bw_record.specs.Keys.{is_below, ascends}
use Rattle.bw_record.specs.Lawful.{IsPair}
use Rattle.bw_record.specs.declared.leaf.Leaf.{Leaf}
use Rattle.bw_record.proofs.Order.{Below, UpTo, not_both, below_upto, upto-refl, upto_empty}
use Rattle.bw_codec.specs.Grammar.{first_key, IsBase}
use Rattle.bw_leaf.specs.Changed.{Bytes, Pairs}
use Rattle.bw_leaf.proofs.Sorted.{Rises, ascends_rises, all-map, all-zip, all-always, first-all, upper_from}
use Rattle.bw_page.specs.Leaves.{AreNumbered, BeginsEmpty, HaveOwnLows, AreLeaves}
use Rattle.bw_page.specs.Laws.{LiesBetween}
use Rattle.bw_page.proofs.Ranges.{ranges_homes}
use Rattle.bw_whole.specs.Written.{low_of, pairs_of, IsNumbered, AreFull}

-- ---- leaves in the order of their lows

-- no key is below its leaf's low, and each is below the lows of all leaves that follow, which are above that leaf's
abbrev Ordered : List Leaf → Type 0
Ordered [] = Unit {0}
Ordered (l ∷ ls) = All (λ p. UpTo l.low p.0) l.pairs × All (λ b. Below l.low b.low × All (λ p. Below p.0 b.low) l.pairs) ls × Ordered ls

apart : (a b : Bytes) (X : Type 0) → Below a b → a ≡ b → X
apart a b X h e = not_both (is_below a b) h (subst (λ (t : Bytes). UpTo t a) e (upto-refl a))

own_lows : (ls : List Leaf) → Ordered ls → HaveOwnLows ls
own_lows [] h = tt
own_lows (l ∷ ls) h = (
  (
    λ e. refl,
    all-map (λ b. Below l.low b.low × All (λ p. Below p.0 b.low) l.pairs) (λ b. l.low ≡ b.low → l.page ≡ b.page)
        (λ b k e. apart l.low b.low (l.page ≡ b.page) k.0 e) ls h.1,
  ),
  all-zip (λ a. All (λ b. a.low ≡ b.low → a.page ≡ b.page) ls) (λ a. Below l.low a.low × All (λ p. Below p.0 a.low) l.pairs)
      (λ a. (a.low ≡ l.low → a.page ≡ l.page) × All (λ b. a.low ≡ b.low → a.page ≡ b.page) ls)
      (λ a own k. (λ e. apart l.low a.low (a.page ≡ l.page) k.0 (sym e), own)) ls (own_lows ls h.2) h.1,
)

-- a key of the first leaf lies in its range
first_between : (l : Leaf) (ls : List Leaf) (q : Bytes) → UpTo l.low q → All (λ b. Below q b.low) ls → LiesBetween (l ∷ ls) l q
first_between l ls q from below = (
  from,
  (
    λ e. not_both (is_below l.low l.low) e (upto-refl l.low),
    all-map (λ b. Below q b.low) (λ b. IsTrue (is_below l.low b.low) → IsTrue (is_below q b.low))
        (λ b k e. k) ls below,
  ),
)

-- a key of a later one does so whatever leaf stands before
later_between : (x l : Leaf) (ls : List Leaf) (q : Bytes) → Below x.low l.low → LiesBetween ls l q → LiesBetween (x ∷ ls) l q
later_between x l ls q over h = (
  h.0,
  (λ e. not_both (is_below l.low x.low) e (below_upto x.low l.low over), h.1),
)

-- all later lows are above each of these keys
turned_round : (pairs : Pairs) (ls : List Leaf) → All (λ b. All (λ p. Below p.0 b.low) pairs) ls → All (λ p. All (λ b. Below p.0 b.low) ls) pairs
turned_round [] ls h = tt
turned_round (p ∷ ps) ls h = (
  all-map (λ b. Below p.0 b.low × All (λ q. Below q.0 b.low) ps) (λ b. Below p.0 b.low) (λ b k. k.0) ls h,
  turned_round ps ls (all-map (λ b. Below p.0 b.low × All (λ q. Below q.0 b.low) ps) (λ b. All (λ q. Below q.0 b.low) ps) (λ b k. k.1) ls h),
)

ranges : (ls : List Leaf) → Ordered ls → All (λ l. All (λ p. LiesBetween ls l p.0) l.pairs) ls
ranges [] h = tt
ranges (x ∷ ls) h =
    let round = turned_round x.pairs ls
    (all-map (λ b. Below x.low b.low × All (λ p. Below p.0 b.low) x.pairs) (λ b. All (λ p. Below p.0 b.low) x.pairs) (λ b k. k.1) ls h.1) in (
      all-zip (λ p. UpTo x.low p.0) (λ p. All (λ b. Below p.0 b.low) ls) (λ p. LiesBetween (x ∷ ls) x p.0) (λ p from below. first_between x ls p.0 from below) x.pairs h.0 round,
      all-zip (λ l. All (λ p. LiesBetween ls l p.0) l.pairs) (λ l. Below x.low l.low × All (λ p. Below p.0 l.low) x.pairs)
          (λ l. All (λ p. LiesBetween (x ∷ ls) l p.0) l.pairs)
          (λ l between k. all-map (λ p. LiesBetween ls l p.0) (λ p. LiesBetween (x ∷ ls) l p.0) (λ p b. later_between x l ls p.0 k.0 b) l.pairs between)
          ls (ranges ls h.2) h.1,
    )

-- ---- pairs that rise through all leaves

all-parts : {X : Type 0} (P : X → Type 0) (a b : List X) → All P (a ++ b) → All P a × All P b
all-parts P [] b h = (tt, h)
all-parts P (x ∷ xs) b h = let rest = all-parts P xs b h.1 in ((h.0, rest.0), rest.1)

rises_apart : (a b : Pairs) → Rises (a ++ b) → All (λ p. All (λ q. Below p.0 q.0) b) a × Rises a × Rises b
rises_apart [] b h = (tt, tt, h)
rises_apart (p ∷ ps) b h =
    let rest = rises_apart ps b h.1 in
    let two = all-parts (λ q. Below p.0 q.0) ps b h.0 in
    ((two.1, rest.0), (two.0, rest.1), rest.2)

swapped : {X Y : Type 0} (R : X → Y → Type 0) (xs : List X) (ys : List Y) → All (λ x. All (R x) ys) xs → All (λ y. All (λ x. R x y) xs) ys
swapped R [] ys h = all-always (λ y. Unit {0}) (λ y. tt) ys
swapped R (x ∷ xs) ys h = all-zip (R x) (λ y. All (λ z. R z y) xs) (λ y. R x y × All (λ z. R z y) xs) (λ y a b. (a, b)) ys h.0 (swapped R xs ys h.1)

-- a leaf after the first one: it has a pair, and begins at its first key
abbrev Later : Leaf → Type 0
Later l = (1 ≤ length l.pairs) × (l.low ≡ first_key l.pairs)

-- what holds of all keys holds of the lows
lows_too : (P : Bytes → Type 0) (ls : List Leaf) → All Later ls → All (λ q. P q.0) (pairs_of ls) → All (λ b. P b.low) ls
lows_too P [] h k = tt
lows_too P (l ∷ ls) h k =
    let two = all-parts (λ q. P q.0) l.pairs (pairs_of ls) k in
    (subst P (sym h.0.1) (first-all P l.pairs h.0.0 two.0), lows_too P ls h.1 two.1)

behind : (pairs : Pairs) (ls : List Leaf) → All Later ls → All (λ p. All (λ q. Below p.0 q.0) (pairs_of ls)) pairs → All (λ b. All (λ p. Below p.0 b.low) pairs) ls
behind pairs ls later h =
    swapped (λ p b. Below p.0 b.low) pairs ls
    (all-map (λ p. All (λ q. Below p.0 q.0) (pairs_of ls)) (λ p. All (λ b. Below p.0 b.low) ls) (λ p k. lows_too (Below p.0) ls later k) pairs h)

later_ordered : (ls : List Leaf) → All Later ls → Rises (pairs_of ls) → Ordered ls
later_ordered [] h r = tt
later_ordered (l ∷ ls) h r =
    let parts = rises_apart l.pairs (pairs_of ls) r in
    let after = behind l.pairs ls h.1 parts.0 in (
      subst (λ (k : Bytes). All (λ p. UpTo k p.0) l.pairs) (sym h.0.1) (upper_from 0 l.pairs parts.1),
      all-map (λ b. All (λ p. Below p.0 b.low) l.pairs) (λ b. Below l.low b.low × All (λ p. Below p.0 b.low) l.pairs)
          (λ b k. (subst (λ (t : Bytes). Below t b.low) (sym h.0.1) (first-all (λ t. Below t b.low) l.pairs h.0.0 k), k)) ls after,
      later_ordered ls h.1 parts.2,
    )

below_empty : (k : Bytes) → 1 ≤ length k → Below [] k
below_empty [] h = absurd (omega arith)
below_empty (x ∷ xs) h = refl

-- the first leaf has the empty low
all_ordered : (l : Leaf) (ls : List Leaf) → l.low ≡ [] → All Later ls → All (λ b. 1 ≤ length b.low) ls → Rises (pairs_of (l ∷ ls)) → Ordered (l ∷ ls)
all_ordered l ls low later keys r =
    let parts = rises_apart l.pairs (pairs_of ls) r in
    let after = behind l.pairs ls later parts.0 in (
      subst (λ (k : Bytes). All (λ p. UpTo k p.0) l.pairs) (sym low) (all-always (λ p. UpTo [] p.0) (λ p. upto_empty p.0) l.pairs),
      all-zip (λ b. 1 ≤ length b.low) (λ b. All (λ p. Below p.0 b.low) l.pairs) (λ b. Below l.low b.low × All (λ p. Below p.0 b.low) l.pairs)
          (λ b some k. (subst (λ (t : Bytes). Below t b.low) (sym low) (below_empty b.low some), k)) ls keys after,
      later_ordered ls later parts.2,
    )

-- ---- the pages of a log

later_low : (n : ℕ) (ps : Pairs) → 2 ≤ n → low_of n ps ≡ first_key ps
later_low n ps h =
    let e : (n == 1) ≡ false = grind (arith, nat_tests) in
    ap (λ (b : Bool). if b then [] else first_key ps) e

is_later : (m n : ℕ) (l : Leaf) → 2 ≤ n → IsNumbered m n l → 1 ≤ length l.pairs → Later l × (1 ≤ length l.low)
is_later m n l two h some =
    let low : l.low ≡ first_key l.pairs = h.low ∙ later_low n l.pairs two in
    let long : 1 ≤ length (first_key l.pairs) =
    first-all (λ k. 1 ≤ length k) l.pairs some (all-map IsPair (λ p. 1 ≤ length p.0) (λ p k. k.0.0) l.pairs h.lawful.pairs) in
    ((some, low), subst (λ (k : Bytes). 1 ≤ length k) (sym low) long)

-- the facts of each page, the last one's too
pages_known : (m n : ℕ) (full : List Leaf) (last : Leaf) → 1 ≤ m → 2 ≤ n → AreFull m n full → IsNumbered m (n + length full) last
    → 1 ≤ length last.pairs → All (λ l. Later l × (1 ≤ length l.low)) (full ++ last ∷ [])
pages_known m n [] last one two h end some =
    let same : n + 0 ≡ n = omega arith in
    (is_later m n last two (subst (λ k. IsNumbered m k last) same end) some, tt)
pages_known m n (l ∷ ls) last one two h end some =
    let same : n + length (l ∷ ls) ≡ n + 1 + length ls = omega arith in
    let full = h.1 in
    (is_later m n l two h.0 (omega arith), pages_known m (n + 1) ls last one (omega arith) h.2 (subst (λ k. IsNumbered m k last) same end) some)

numbered : (m n : ℕ) (full : List Leaf) (last : Leaf) → AreFull m n full → IsNumbered m (n + length full) last → AreNumbered n (full ++ last ∷ [])
numbered m n [] last h end = let number = end.number in (omega arith, tt)
numbered m n (l ∷ ls) last h end =
    let same : n + length (l ∷ ls) ≡ n + 1 + length ls = omega arith in
    (h.0.number, numbered m (n + 1) ls last h.2 (subst (λ k. IsNumbered m k last) same end))

bases : (m n : ℕ) (full : List Leaf) (last : Leaf) → AreFull m n full → IsBase m last → All (IsBase m) (full ++ last ∷ [])
bases m n [] last h end = (end, tt)
bases m n (l ∷ ls) last h end = (h.0.lawful, bases m (n + 1) ls last h.2 end)

ranged : (m : ℕ) (leaves : List Leaf) → AreNumbered 1 leaves → BeginsEmpty leaves → All (IsBase m) leaves → Ordered leaves → AreLeaves m leaves
ranged m leaves pages first each order =
    ranges_homes m leaves (record { pages = pages; first = first; lows = own_lows leaves order; each = each; ranges = ranges leaves order })

pub lawful_pages : (m : ℕ) (full : List Leaf) (last : Leaf) → 1 ≤ m → AreFull m 1 full → IsNumbered m (length full + 1) last
    → (1 ≤ length full → 1 ≤ length last.pairs) → IsTrue (ascends (pairs_of (full ++ last ∷ []))) → AreLeaves m (full ++ last ∷ [])
lawful_pages m [] last one h end some rise =
    let r = ascends_rises (pairs_of (last ∷ [])) rise in
    ranged m (last ∷ []) (end.number, tt) end.low (end.lawful, tt) (all_ordered last [] end.low tt tt r)
lawful_pages m (l ∷ ls) last one h end some rise =
    let same : length (l ∷ ls) + 1 ≡ 2 + length ls = omega arith in
    let from : length (l ∷ ls) + 1 ≡ 1 + length (l ∷ ls) = omega arith in
    let r = ascends_rises (pairs_of (l ∷ (ls ++ last ∷ []))) rise in
    let low : l.low ≡ [] = h.0.low in
    let known = pages_known m 2 ls last one (omega arith) h.2 (subst (λ k. IsNumbered m k last) same end) (some (omega arith)) in
    let later = all-map (λ x. Later x × (1 ≤ length x.low)) Later (λ x k. k.0) (ls ++ last ∷ []) known in
    let keys = all-map (λ x. Later x × (1 ≤ length x.low)) (λ x. 1 ≤ length x.low) (λ x k. k.1) (ls ++ last ∷ []) known in
    ranged m (l ∷ (ls ++ last ∷ [])) (numbered m 1 (l ∷ ls) last h (subst (λ k. IsNumbered m k last) from end)) low
    (bases m 1 (l ∷ ls) last h end.lawful) (all_ordered l (ls ++ last ∷ []) low later keys r)
