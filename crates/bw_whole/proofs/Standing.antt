-- Bases of pages in the order of their numbers, read forwards, are these pages.

use Rattle.std.proofs.Common.{◌≡◌, ℕ, zero, suc, ◌+◌, ◌<◌, ◌≤◌, ◌==◌, Bool, true, false, if◌then◌else◌, Option, Some, None, List, [], ◌∷◌, length, refl, sym, ap, ◌∙◌, subst, arith, map, slice_get}
use Rattle.std.proofs.lemmas.List.{length-map}
use Rattle.std.proofs.lemmas.Bool.Decides.{nat_tests}
use Rattle.std.specs.List.{fold, AllByRecursion}
use Rattle.bw_record.specs.Touch.{touches}
use Rattle.bw_record.specs.declared.leaf.Leaf.{Leaf}
use Rattle.bw_record.specs.declared.block.Block.{Block}
use Rattle.bw_record.specs.declared.block.Block.TheVariants.{Base}
use Rattle.bw_record.specs.declared.block.Frame.{Frame}
use Rattle.bw_leaf.specs.Forwards.{after, content, blocks_of}
use Rattle.bw_page.specs.Leaves.{leaf_at, AreNumbered, AreLeaves}
use Rattle.bw_page.specs.Standing.{Stand}

abbrev bases : List Leaf → List Block
bases ls = map (λ (l : Leaf). Base l) ls

-- a page of a smaller number is as it was
smaller : (p n : ℕ) (was : Option Leaf) (ls : List Leaf) → AreNumbered n ls → p < n → fold (after p) was (bases ls) ≡ was
smaller p n was [] h below = refl
smaller p n was (l ∷ ls) h below =
    let number = h.0 in
    let other : (l.page == p) ≡ false = grind (arith, nat_tests) in
    ap (λ (b : Bool). fold (after p) (if b then Some l else was) (bases ls)) other ∙ smaller p (n + 1) was ls h.1 (omega arith)

-- and one of them is what stands at its place
found : (k p n : ℕ) (was : Option Leaf) (ls : List Leaf) → AreNumbered n ls → p ≡ n + k → k < length ls
    → fold (after p) was (bases ls) ≡ slice_get ls k
found k p n was [] h at within = absurd (omega arith)
found zero p n was (l ∷ ls) h at within =
    let number = h.0 in
    let same : (l.page == p) ≡ true = grind (arith, nat_tests) in
    ap (λ (b : Bool). fold (after p) (if b then Some l else was) (bases ls)) same ∙ smaller p (n + 1) (Some l) ls h.1 (omega arith)
found (suc k) p n was (l ∷ ls) h at within =
    let number = h.0 in
    let other : (l.page == p) ≡ false = grind (arith, nat_tests) in
    ap (λ (b : Bool). fold (after p) (if b then Some l else was) (bases ls)) other ∙ found k p (n + 1) was ls h.1 (omega arith) (omega arith)

each_page : (p : ℕ) (ls : List Leaf) → AreNumbered 1 ls → 1 ≤ p → p ≤ length ls → content p (bases ls) ≡ leaf_at p ls
each_page zero ls h from to = absurd (omega arith)
each_page (suc j) ls h from to = found j (suc j) 1 None ls h (omega arith) (omega arith)

beyond : (p n : ℕ) (ls : List Leaf) → AreNumbered n ls → n + length ls ≤ p → AllByRecursion (λ b. touches p b ≡ false) (bases ls)
beyond p n [] h over = tt
beyond p n (l ∷ ls) h over =
    let number = h.0 in
    (grind (arith, nat_tests), beyond p (n + 1) ls h.1 (omega arith))

some_frames : (frames : List Frame) (leaves : List Leaf) → blocks_of frames ≡ bases leaves → 1 ≤ length leaves → 1 ≤ length frames
some_frames [] leaves h some =
    let none : 0 ≡ length leaves = simp length-map at (ap length h) in
    absurd (omega arith)
some_frames (x ∷ xs) leaves h some = omega arith

pub stand : (m : ℕ) (frames : List Frame) (leaves : List Leaf) → blocks_of frames ≡ bases leaves → 1 ≤ length leaves → AreLeaves m leaves
    → Stand m frames leaves
stand m frames leaves h some lawful = record {
  some = some_frames frames leaves h some;
  lawful = lawful;
  each = λ p from to. ap (content p) h ∙ each_page p leaves lawful.pages from to;
  all = λ p over. subst (AllByRecursion (λ b. touches p b ≡ false)) (sym h) (beyond p 1 leaves lawful.pages (omega arith));
}
