-- For the crates above: a page's leaf after a record, and the split of the forward reading.

use Rattle.std.proofs.Common.{◌≡◌, ℕ, zero, suc, ◌+◌, ◌/◌, ◌<◌, ◌≤◌, Some, List, [], ◌∷◌, ◌++◌, map, length, take, drop, refl, ap, arith, add-one}
use Rattle.std.specs.List.{AllByRecursion as All, filter, slice_get}
use Rattle.std.specs.Option.{option_map}
use Rattle.bw_record.specs.Keys.{is_below}
use Rattle.bw_codec.specs.Grammar.{first_key}
use Rattle.bw_record.specs.declared.leaf.Leaf.{Leaf}
use Rattle.bw_record.proofs.Order.{Below, UpTo}
use Rattle.bw_leaf.specs.Changed.{Bytes, Pairs}
use Rattle.bw_page.specs.Leaves.{leaf_at}
use Rattle.bw_leaf.specs.SplitRule.{lower_of, upper_of}
use Rattle.bw_leaf.specs.Forwards.{kept_below}
use Rattle.bw_leaf.proofs.Sorted.{Rises, lower_below, upper_from}

filter-none : (s : Bytes) (ps : Pairs) → All (λ p. UpTo s p.0) ps → filter (λ p. is_below p.0 s) ps ≡ []
filter-none s [] h = refl
filter-none s (p ∷ ps) h = rw h.0 (filter-none s ps h.1)

filter-take : (s : Bytes) (n : ℕ) (ps : Pairs) → All (λ p. Below p.0 s) (take n ps) → All (λ p. UpTo s p.0) (drop n ps)
    → filter (λ p. is_below p.0 s) ps ≡ take n ps
filter-take s zero ps h k = filter-none s ps k
filter-take s (suc n) [] h k = refl
filter-take s (suc n) (p ∷ ps) h k = rw h.0 (ap (λ xs. p ∷ xs) (filter-take s n ps h.1 k))

-- the Split of the forward reading splits as the split rule does
pub kept-lower : (m page : ℕ) (leaf : Leaf) → (m + 1) / 2 < length leaf.pairs → Rises leaf.pairs → kept_below (upper_of m page leaf).low leaf ≡ lower_of m leaf
kept-lower m page leaf within r =
    ap (λ (ps : Pairs). record leaf { pairs = ps })
    (filter-take (first_key (drop ((m + 1) / 2) leaf.pairs)) ((m + 1) / 2) leaf.pairs (lower_below ((m + 1) / 2) leaf.pairs within r)
    (upper_from ((m + 1) / 2) leaf.pairs r))

slice_get-map : (f : Leaf → Leaf) (ls : List Leaf) (n : ℕ) → slice_get (map f ls) n ≡ option_map f (slice_get ls n)
slice_get-map f [] n = refl
slice_get-map f (l ∷ ls) zero = refl
slice_get-map f (l ∷ ls) (suc n) = slice_get-map f ls n

-- a page's leaf after a change of each leaf
pub leaf_at-map : (f : Leaf → Leaf) (p : ℕ) (leaves : List Leaf) → leaf_at p (map f leaves) ≡ option_map f (leaf_at p leaves)
leaf_at-map f zero leaves = refl
leaf_at-map f (suc n) leaves = slice_get-map f leaves n

slice_get-push : (ls : List Leaf) (u : Leaf) (n : ℕ) → n < length ls → slice_get (ls ++ u ∷ []) n ≡ slice_get ls n
slice_get-push [] u n h = absurd (omega arith)
slice_get-push (l ∷ ls) u zero h = refl
slice_get-push (l ∷ ls) u (suc n) h = slice_get-push ls u n (omega arith)

slice_get-new : (ls : List Leaf) (u : Leaf) → slice_get (ls ++ u ∷ []) (length ls) ≡ Some u
slice_get-new [] u = refl
slice_get-new (l ∷ ls) u = slice_get-new ls u

-- a page's leaf where a page is new: an old page's, and the new one's
pub leaf_at-push : (p : ℕ) (leaves : List Leaf) (u : Leaf) → p ≤ length leaves → leaf_at p (leaves ++ u ∷ []) ≡ leaf_at p leaves
leaf_at-push zero leaves u h = refl
leaf_at-push (suc n) leaves u h = slice_get-push leaves u n (omega arith)

pub leaf_at-new : (leaves : List Leaf) (u : Leaf) → leaf_at (length leaves + 1) (leaves ++ u ∷ []) ≡ Some u
leaf_at-new leaves u = rw (add-one (length leaves)) (slice_get-new leaves u)
