-- The index of lows is built from the last leaf down.

use Rattle.std.proofs.Common.{◌≡◌, ℕ, zero, suc, ◌+◌, ◌-◌, ◌<◌, ◌≤◌, ◌^◌, cond, Option, Some, List, [], ◌∷◌, length, drop, get_or, refl, sym, ap, ◌∙◌, arith}
use Rattle.std.proofs.Common.{drop-cons, lit<}
use Rattle.std.specs.List.{AllByRecursion as All}
use Rattle.std.specs.Ordering.{eq_by_cmp}
use Rattle.std.specs.FinMap.Entries.{find}
use Rattle.bw_record.specs.Keys.{IsKey}
use Rattle.bw_codec.specs.Grammar.{IsBase}
use Rattle.bw_record.specs.declared.leaf.Leaf.{Leaf}
use Rattle.bw_page.specs.declared.leaves.Leaves.TheInside.{Inside}
use Rattle.bw_leaf.specs.Changed.{Bytes, order}
use Rattle.bw_page.specs.Gap.{IsGap}
use Rattle.bw_page.specs.Leaves.{AreNumbered, AreLeaves, union}
use Rattle.bw_lows.specs.LowHeads.{page_of_low}
use Rattle.bw_page.specs.Lows.{lows_of}
use Rattle.bw_page.specs.Index.{IsIndexed}
use Rattle.bw_leaf.proofs.Sorted.{all-map, all-zip}
use Rattle.bw_page.proofs.Homes.{pages_from}

some_length : (low : Bytes) → (low ≡ [] → ⊥) → 1 ≤ length low
some_length [] h = absurd (h refl)
some_length (x ∷ xs) h = omega arith

-- each low but the first is a key
pub lows_are_keys : (m : ℕ) (leaves : List Leaf) → AreLeaves m leaves → All (λ l. IsKey l.low) (drop 1 leaves)
lows_are_keys m [] a = tt
lows_are_keys m (x ∷ xs) a =
    all-zip (λ l. (2 ≤ l.page) × (x.low ≡ l.low → x.page ≡ l.page)) (IsBase m) (λ l. IsKey l.low)
    (λ l own base. (some_length l.low (λ e. let same = own.1 (a.first ∙ sym e) in let one = a.pages.0 in let two = own.0 in absurd (omega arith)), base.low))
    xs
    (all-zip (λ l. 2 ≤ l.page) (λ l. x.low ≡ l.low → x.page ≡ l.page) (λ l. (2 ≤ l.page) × (x.low ≡ l.low → x.page ≡ l.page)) (λ l p q. (p, q)) xs
    (pages_from 2 xs a.pages.1) a.lows.0.1)
    a.each.1

nth-all : (P : Leaf → Type 0) (i : ℕ) (ls : List Leaf) (d : Leaf) → All P ls → i < length ls → P (get_or ls i d)
nth-all P i [] d h k = absurd (omega arith)
nth-all P zero (l ∷ ls) d h k = h.0
nth-all P (suc i) (l ∷ ls) d h k = nth-all P i ls d h.1 (omega arith)

-- the low of a leaf after the first one
pub low_key : (leaves : List Leaf) (i : ℕ) (d : Leaf) → All (λ l. IsKey l.low) (drop 1 leaves) → 1 ≤ i → i < length leaves → IsKey (get_or leaves i d).low
low_key [] i d h one k = absurd (omega arith)
low_key (l ∷ ls) zero d h one k = absurd (omega arith)
low_key (l ∷ ls) (suc i) d h one k = nth-all (λ x. IsKey x.low) i ls d h (omega arith)

-- one leaf more, from the last one down
pub index-step : (leaves : List Leaf) (n : ℕ) (leaf : Leaf) (got new : Bytes → Option ℕ) → 1 < n → n ≤ length leaves → leaf ≡ get_or leaves (n - 1) leaf
    → ((q : Bytes) → got q ≡ find order q (lows_of (drop n leaves)))
    → ((q : Bytes) → new q ≡ cond (eq_by_cmp order q leaf.low) (Some leaf.page) (got q))
    → (q : Bytes) → new q ≡ find order q (lows_of (drop (n - 1) leaves))
index-step leaves n leaf got new more within is h k q =
    let next : suc (n - 1) ≡ n = omega arith in
    let inside : n - 1 < length leaves = omega arith in
    let split : drop (n - 1) leaves ≡ leaf ∷ drop n leaves =
    drop-cons leaves (n - 1) leaf inside ∙ ap (λ (l : Leaf). l ∷ drop (suc (n - 1)) leaves) (sym is) ∙ ap (λ i. leaf ∷ drop i leaves) next in
    k q ∙ ap (λ v. cond (eq_by_cmp order q leaf.low) (Some leaf.page) v) (h q)
    ∙ ap (λ (ls : List Leaf). find order q (lows_of ls)) (sym split)

numbered_fits : (n : ℕ) (ls : List Leaf) → n < 2 ^ 32 → AreNumbered (n + 1) ls → All (λ l. l.page < 2 ^ 32) ls → n + length ls < 2 ^ 32
numbered_fits n [] h k p = omega arith
numbered_fits n (l ∷ ls) h k p = let e = k.0 in let b = p.0 in let rest = numbered_fits (n + 1) ls (omega arith) k.1 p.1 in omega arith

-- pages are numbered below 2^32, so there are fewer
pub count_fits : (m : ℕ) (leaves : List Leaf) → AreLeaves m leaves → length leaves < 2 ^ 32
count_fits m leaves a =
    let h = numbered_fits 0 leaves (lit< tt) a.pages (all-map (IsBase m) (λ l. l.page < 2 ^ 32) (λ l b. b.page.1) leaves a.each) in omega arith

pub some_leaf : (m : ℕ) (leaves : List Leaf) → AreLeaves m leaves → 1 ≤ length leaves
some_leaf m [] a = absurd a.first
some_leaf m (l ∷ ls) a = omega arith

-- leaves with the index of their lows
pub filed_new : (b : Inside) → (4 ≤ b.m) × (b.m ≤ 32) → AreLeaves b.m b.leaves.items
    → ((q : Bytes) → page_of_low b.index q ≡ find order q (lows_of (drop 1 b.leaves.items))) → IsGap (union b.leaves.items) b.gap → IsIndexed b
filed_new b limit lawful index gap = record { limit = limit; count = count_fits b.m b.leaves.items lawful; lawful = lawful; index = index; gap = gap }
