-- All pages have as many pairs as their map has keys.

use Rattle.std.proofs.Common.{◌≡◌, ℕ, zero, suc, ◌+◌, ◌-◌, ◌*◌, ◌≤◌, ◌<◌, false, cond, Some, None, List, [], ◌∷◌, ◌++◌, length, take, take_all}
use Rattle.std.proofs.Common.{get_or, length-append, append-nil, refl, sym, ap, ◌∙◌, subst, arith}
use Rattle.std.specs.Prelude.{is_some}
use Rattle.std.specs.List.{slice_get, flat_map, AllByRecursion as All}
use Rattle.std.specs.FinMap as finite
use Rattle.std.specs.FinMap.{get-from_entries, len-insert, len-empty}
use Rattle.std.specs.FinMap.Entries.{find}
use Rattle.std.proofs.lemmas.List.{take_more}
use Rattle.std.proofs.lemmas.List.Concat.{flat_map-append}
use Rattle.bw_record.specs.declared.leaf.Leaf.{Leaf}
use Rattle.bw_record.proofs.Order.{Below, order-total, apart, upto-refl, not_both}
use Rattle.bw_codec.specs.Grammar.{IsBase}
use Rattle.bw_leaf.specs.Changed.{Bytes, Pairs, order, empty_leaf}
use Rattle.bw_page.specs.Leaves.{home, union, AreLeaves, AreNumbered, AtHome, leaf_at}
use Rattle.bw_page.specs.Shown.{Shown}
use Rattle.bw_leaf.proofs.Sorted.{all-map, Rises, ascends_rises}

-- none of the pairs has the key
abbrev Lacks : Bytes → Pairs → Type 0
Lacks q ps = All (λ p. q ≡ p.0 → ⊥) ps

-- no key stands twice
abbrev Distinct : Pairs → Type 0
Distinct [] = Unit {0}
Distinct (p ∷ ps) = Lacks p.0 ps × Distinct ps

find_none : (q : Bytes) (ps : Pairs) → Lacks q ps → find order q ps ≡ None
find_none q [] h = refl
find_none q (p ∷ ps) h = ap (λ b. cond b (Some p.1) (find order q ps)) (apart q p.0 h.0) ∙ find_none q ps h.1

len_distinct : (ps : Pairs) → Distinct ps → finite.len (finite.from_entries {R = order} ps) ≡ length ps
len_distinct [] d = len-empty order Bytes
len_distinct (p ∷ ps) d =
    let m = finite.from_entries {R = order} ps in
    let new : finite.contains_key m p.0 ≡ false = ap is_some (get-from_entries order-total ps p.0 ∙ find_none p.0 ps d.0) in
    let rest = len_distinct ps d.1 in
    let one = len-insert order-total m p.0 p.1 ∙ ap (λ b. cond b (finite.len m) (finite.len m + 1)) new in
    omega arith

lacks_append : (q : Bytes) (ps qs : Pairs) → Lacks q ps → Lacks q qs → Lacks q (ps ++ qs)
lacks_append q [] qs h k = k
lacks_append q (p ∷ ps) qs h k = (h.0, lacks_append q ps qs h.1 k)

distinct_append : (ps qs : Pairs) → Distinct ps → Distinct qs → All (λ p. Lacks p.0 qs) ps → Distinct (ps ++ qs)
distinct_append [] qs d e h = e
distinct_append (p ∷ ps) qs d e h = (lacks_append p.0 ps qs d.0 h.0, distinct_append ps qs d.1 e h.1)

below_other : (a b : Bytes) → Below a b → a ≡ b → ⊥
below_other a b h e = not_both _ (subst (λ c. Below a c) (sym e) h) (upto-refl a)

rises_distinct : (ps : Pairs) → Rises ps → Distinct ps
rises_distinct [] r = tt
rises_distinct (p ∷ ps) r = (all-map (λ q. Below p.0 q.0) (λ q. p.0 ≡ q.0 → ⊥) (λ q b. below_other p.0 q.0 b) ps r.0, rises_distinct ps r.1)

abbrev pub pairs_of : List Leaf → Pairs
pairs_of leaves = flat_map (λ l. l.pairs) leaves

all_append : {X : Type 0} (P : X → Type 0) (xs ys : List X) → All P xs → All P ys → All P (xs ++ ys)
all_append P [] ys h k = k
all_append P (x ∷ xs) ys h k = (h.0, all_append P xs ys h.1 k)

-- each key of these pages is at home on a page from n on
at_home : (all : List Leaf) (page : ℕ) (n : ℕ) (ps : Pairs) → n ≤ page → All (λ p. (home p.0 all).page ≡ page) ps → All (λ p. n ≤ (home p.0 all).page) ps
at_home all page n ps le h =
    all-map (λ p. (home p.0 all).page ≡ page) (λ p. n ≤ (home p.0 all).page) (λ p e. subst (λ k. n ≤ k) (sym e) le) ps h

later : (all : List Leaf) (n : ℕ) (ps : Pairs) → All (λ p. n + 1 ≤ (home p.0 all).page) ps → All (λ p. n ≤ (home p.0 all).page) ps
later all n ps h = all-map (λ p. n + 1 ≤ (home p.0 all).page) (λ p. n ≤ (home p.0 all).page) (λ p le. omega arith) ps h

homes_from : (all ls : List Leaf) (n : ℕ) → AreNumbered n ls → All (AtHome all) ls → All (λ p. n ≤ (home p.0 all).page) (pairs_of ls)
homes_from all [] n a h = tt
homes_from all (l ∷ ls) n a h =
    all_append (λ p. n ≤ (home p.0 all).page) l.pairs (pairs_of ls)
    (at_home all l.page n l.pairs (let e = a.0 in omega arith) h.0)
    (later all n (pairs_of ls) (homes_from all ls (n + 1) a.1 h.1))

lacks_later : (all : List Leaf) (q : Bytes) (n : ℕ) (ps : Pairs) → (home q all).page ≡ n → All (λ p. n + 1 ≤ (home p.0 all).page) ps → Lacks q ps
lacks_later all q n ps e h =
    all-map (λ p. n + 1 ≤ (home p.0 all).page) (λ p. q ≡ p.0 → ⊥)
    (λ p le same. let there = ap (λ k. (home k all).page) same in absurd (omega arith)) ps h

distinct_pages : (m : ℕ) (all ls : List Leaf) (n : ℕ) → AreNumbered n ls → All (AtHome all) ls → All (IsBase m) ls → Distinct (pairs_of ls)
distinct_pages m all [] n a h b = tt
distinct_pages m all (l ∷ ls) n a h b =
    let rest = homes_from all ls (n + 1) a.1 h.1 in
    distinct_append l.pairs (pairs_of ls)
    (rises_distinct l.pairs (ascends_rises l.pairs b.0.ascends))
    (distinct_pages m all ls (n + 1) a.1 h.1 b.1)
    (all-map (λ p. (home p.0 all).page ≡ l.page) (λ p. Lacks p.0 (pairs_of ls))
    (λ p e. lacks_later all p.0 n (pairs_of ls) (e ∙ a.0) rest) l.pairs h.0)

-- as many pairs as keys
pub counted : (m : ℕ) (leaves : List Leaf) → AreLeaves m leaves → finite.len (union leaves) ≡ length (pairs_of leaves)
counted m leaves a = len_distinct (pairs_of leaves) (distinct_pages m leaves leaves 1 a.pages a.homes a.each)

-- ---- page by page

pub total : List Leaf → ℕ → ℕ
total leaves i = length (pairs_of (take i leaves))

pub total_none : (leaves : List Leaf) → total leaves 0 ≡ 0
unfolding total
total_none leaves = refl

pub total_more : (leaves : List Leaf) (i : ℕ) → i < length leaves → total leaves (i + 1) ≡ total leaves i + length (get_or leaves i empty_leaf).pairs
unfolding total
total_more leaves i lt =
    ap (λ ls. length (pairs_of ls)) (take_more leaves i empty_leaf lt)
    ∙ ap length (flat_map-append (λ (l : Leaf). l.pairs) (take i leaves) (get_or leaves i empty_leaf ∷ []))
    ∙ length-append (pairs_of (take i leaves)) ((get_or leaves i empty_leaf).pairs ++ [])
    ∙ ap (λ ps. length (pairs_of (take i leaves)) + length ps) (append-nil (get_or leaves i empty_leaf).pairs)

pub total_all : (leaves : List Leaf) (i : ℕ) → i ≡ length leaves → total leaves i ≡ length (pairs_of leaves)
unfolding total
total_all leaves i e = ap (λ ls. length (pairs_of ls)) (take_all i leaves (omega arith))

few_pairs : (m : ℕ) (leaves : List Leaf) (i : ℕ) → m ≤ 32 → All (IsBase m) leaves → length (pairs_of (take i leaves)) ≤ i * 32
few_pairs m leaves zero le b = (let none : 0 ≤ zero * 32 = omega arith in none)
few_pairs m [] (suc i) le b = (let none : 0 ≤ suc i * 32 = omega arith in none)
few_pairs m (l ∷ ls) (suc i) le b =
    let rest = few_pairs m ls i le b.1 in
    let here = b.0.count in
    let both = length-append l.pairs (pairs_of (take i ls)) in
    omega arith

-- what was read of a page is what these leaves have there
pub pairs_more : (was now : Shown) (before pairs more : ℕ) → now ≡ was → before < length was.leaves → pairs ≡ total was.leaves before
    → more ≡ length (get_or now.leaves (before + 1 - 1) empty_leaf).pairs → pairs + more ≡ total was.leaves (before + 1)
pairs_more was now before pairs more same lt so_far is =
    let here = is ∙ ap (λ (f : Shown). length (get_or f.leaves (before + 1 - 1) empty_leaf).pairs) same in
    let at : before + 1 - 1 ≡ before = omega arith in
    let there = ap (λ k. length (get_or was.leaves k empty_leaf).pairs) at in
    let step = total_more was.leaves before lt in
    omega arith

pub total_few : (m : ℕ) (leaves : List Leaf) (i : ℕ) → m ≤ 32 → AreLeaves m leaves → total leaves i ≤ i * 32
unfolding total
total_few m leaves i le a = few_pairs m leaves i le a.each

slice_at : (ls : List Leaf) (n : ℕ) (l : Leaf) → slice_get ls n ≡ Some l → get_or ls n empty_leaf ≡ l
slice_at [] n l e = absurd cc
slice_at (x ∷ xs) zero l e = cc
slice_at (x ∷ xs) (suc n) l e = slice_at xs n l e

-- the pairs of a page
pub pairs_at : (p : ℕ) (ls : List Leaf) (l : Leaf) → 1 ≤ p → leaf_at p ls ≡ Some l → length l.pairs ≡ length (get_or ls (p - 1) empty_leaf).pairs
pairs_at zero ls l some e = absurd (omega arith)
pairs_at (suc n) ls l some e =
    (let one : suc n - 1 ≡ n = omega arith in
    sym (ap (λ k. length (get_or ls k empty_leaf).pairs) one ∙ ap (λ (x : Leaf). length x.pairs) (slice_at ls n l e)))
