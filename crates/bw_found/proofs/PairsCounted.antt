-- How many pairs pages have, one page after the other.

use Rattle.std.proofs.Common.{◌≡◌, ℕ, zero, suc, ◌+◌, ◌*◌, ◌^◌, ◌<◌, ◌≤◌, List, [], ◌∷◌, length, get_or, refl, sym, ap, ◌∙◌, arith}
use Rattle.bw_record.specs.declared.leaf.Leaf.{Leaf}
use Rattle.bw_leaf.specs.Changed.{empty_leaf}
use Rattle.bw_page.specs.Leaves.{AreLeaves, AreNumbered}
use Rattle.bw_page.proofs.Counted.{total, total_few, total_more}

same_there : (ls : List Leaf) (n : ℕ) (d e : Leaf) → n < length ls → get_or ls n d ≡ get_or ls n e
same_there [] n d e lt = absurd (omega (arith, lt))
same_there (x ∷ xs) zero d e lt = refl
same_there (x ∷ xs) (suc n) d e lt = same_there xs n d e (omega (arith, lt))

numbered_at : (n : ℕ) (ls : List Leaf) (i : ℕ) (d : Leaf) → AreNumbered n ls → i < length ls → (get_or ls i d).page ≡ n + i
numbered_at n [] i d a lt = absurd (omega (arith, lt))
numbered_at n (x ∷ xs) zero d a lt = (let first = a.0 in omega arith)
numbered_at n (x ∷ xs) (suc i) d a lt = (let rest = numbered_at (n + 1) xs i d a.1 (omega (arith, lt)) in omega arith)

-- one page more
pub pairs_next : (ls : List Leaf) (i pairs count : ℕ) (l : Leaf) → i < length ls → l ≡ get_or ls i l → pairs ≡ total ls i → count ≡ length l.pairs
    → pairs + count ≡ total ls (i + 1)
pairs_next ls i pairs count l lt is so_far here =
    let there = ap (λ (x : Leaf). length x.pairs) (is ∙ same_there ls i l empty_leaf lt) in
    let step = total_more ls i lt in
    omega arith

-- pages have few pairs, since their numbers are small
pub pairs_few : (m : ℕ) (ls : List Leaf) (i : ℕ) (l : Leaf) → m ≤ 32 → AreLeaves m ls → i < length ls → l ≡ get_or ls i l → l.page < 2 ^ 32
    → total ls (i + 1) < 2 ^ 64
pairs_few m ls i l le a lt is small =
    let number = ap (λ (x : Leaf). x.page) is ∙ numbered_at 1 ls i l a.pages lt in
    let few = total_few m ls (i + 1) le a in
    omega arith
