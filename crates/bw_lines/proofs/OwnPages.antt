-- The pages of frames that stand for leaves: as many, and those leaves.

use Rattle.std.proofs.Common.{inl, inr, ◌≡◌, ℕ, zero, suc, ◌+◌, ◌<◌, ◌≤◌, ◌==◌, ◌||◌, Bool, true, false, max, Some}
use Rattle.std.proofs.Common.{List, [], ◌∷◌, length, slice_get, refl, sym, ap, ◌∙◌, arith}
use Rattle.std.specs.List.{AllByRecursion}
use Rattle.std.proofs.lemmas.Bool.{eq-eqb, true≢false, cases_lt}
use Rattle.bw_record.specs.Touch.{touches}
use Rattle.bw_record.specs.declared.leaf.Leaf.{Leaf}
use Rattle.bw_record.specs.declared.block.Block.{Block}
use Rattle.bw_record.specs.declared.block.Block.TheVariants.{Delta, Base, Split}
use Rattle.bw_record.specs.declared.block.Frame.{Frame}
use Rattle.bw_buffer.specs.Marks.{mark_of}
use Rattle.bw_leaf.specs.Forwards.{content, blocks_of}
use Rattle.bw_page.specs.Standing.{Stand}
use Rattle.bw_log.specs.PageTable.{top_of, top_page}
use Rattle.bw_lines.specs.Lawful.{contents}
use Rattle.bw_lines.proofs.FoundStand.{all_untouched}
use Rattle.bw_lines.proofs.StandingAgain.{beyond_none, leaf_there}

-- ---- the greatest page

or_right : (a b : Bool) → b ≡ true → (a || b) ≡ true
or_right true b e = refl
or_right false b e = e

-- a block touches the greatest page that it speaks of
touches_top : (b : Block) → touches (top_of (mark_of b)) b ≡ true
touches_top (Delta page back ops) = eq-eqb page page refl
touches_top (Base leaf) = eq-eqb leaf.page leaf.page refl
touches_top (Split page back upper) = elim (cases_lt page upper.page) [
  | inl less ↦ (let top : upper.page ≡ max page upper.page = omega arith in
      or_right (page == max page upper.page) (upper.page == max page upper.page) (eq-eqb upper.page (max page upper.page) top))
  | inr more ↦ (let top : page ≡ max page upper.page = omega arith in
      ap (λ (t : Bool). t || (upper.page == max page upper.page)) (eq-eqb page (max page upper.page) top))
]

top_within : (n : ℕ) (b : Block) → ((p : ℕ) → n + 1 ≤ p → touches p b ≡ false) → top_of (mark_of b) ≤ n
top_within n b none = elim (cases_lt n (top_of (mark_of b))) [
  | inl beyond ↦ absurd (true≢false (sym (touches_top b) ∙ none (top_of (mark_of b)) (omega arith)))
  | inr within ↦ within
]

tops_within : (n : ℕ) (bs : List Block) → ((p : ℕ) → n + 1 ≤ p → AllByRecursion (λ b. touches p b ≡ false) bs) → top_page bs ≤ n
tops_within n [] none = omega arith
tops_within n (b ∷ bs) none =
    let one = top_within n b (λ p beyond. (none p beyond).0) in
    let more = tops_within n bs (λ p beyond. (none p beyond).1) in
    omega arith

last_touched : (m : ℕ) (frames : List Frame) (leaves : List Leaf) (n : ℕ) → Stand m frames leaves → length leaves ≡ n → n ≤ top_page (blocks_of frames)
last_touched m frames leaves zero stand is = omega arith
last_touched m frames leaves (suc i) stand is = elim (cases_lt (top_page (blocks_of frames)) (suc i)) [
  | inl beyond ↦ (
      let none = beyond_none (blocks_of frames) (suc i) (all_untouched (suc i) (blocks_of frames) beyond) in
      let there = leaf_there leaves 0 i (omega arith) in
      let some = stand.each (suc i) (omega arith) (omega arith) ∙ there.1 in
      absurd cc)
  | inr within ↦ within
]

-- the greatest page that the blocks speak of is the last leaf's
pub top_is : (m : ℕ) (frames : List Frame) (leaves : List Leaf) → Stand m frames leaves → top_page (blocks_of frames) ≡ length leaves
top_is m frames leaves stand =
    let most = tops_within (length leaves) (blocks_of frames) stand.all in
    let least = last_touched m frames leaves (length leaves) stand refl in
    omega arith

-- ---- the leaves

contents_from : (blocks : List Block) (p : ℕ) (ls : List Leaf) → ((i : ℕ) → i < length ls → content (p + i) blocks ≡ slice_get ls i)
    → contents blocks p (length ls) ≡ ls
unfolding contents
contents_from blocks p [] each = refl
contents_from blocks p (l ∷ ls) each =
    let here : content p blocks ≡ Some l = (let none : p ≡ p + 0 = omega arith in ap (λ (k : ℕ). content k blocks) none) ∙ each 0 (omega arith) in
    let more = contents_from blocks (p + 1) ls
    (λ i inside. (let next : p + 1 + i ≡ p + suc i = omega arith in ap (λ (k : ℕ). content k blocks) next) ∙ each (suc i) (omega arith)) in
    rw (here, contents) (ap (λ (x : List Leaf). l ∷ x) more)

pub contents_are : (m : ℕ) (frames : List Frame) (leaves : List Leaf) → Stand m frames leaves
    → contents (blocks_of frames) 1 (top_page (blocks_of frames)) ≡ leaves
contents_are m frames leaves stand =
    ap (contents (blocks_of frames) 1) (top_is m frames leaves stand)
    ∙ contents_from (blocks_of frames) 1 leaves
    (λ i inside. (let next : 1 + i ≡ suc i = omega arith in ap (λ (k : ℕ). content k (blocks_of frames)) next)
    ∙ stand.each (suc i) (omega arith) (omega arith))
