-- A frame's blocks stand in the table's lines: no more new pages than blocks, and each of them named by one.

use Rattle.std.proofs.Common.{◌≡◌, ◌≢◌, ℕ, zero, suc, ◌+◌, ◌-◌, ◌<◌, ◌≤◌, ◌==◌, ◌||◌, inl, inr, Bool, true, false, Option, None, List, [], ◌∷◌, ◌++◌, length}
use Rattle.std.proofs.Common.{refl, sym, ap, subst, ◌∙◌, append-nil, arith}
use Rattle.std.proofs.lemmas.Bool.{eqb-true, eq-eqb, cases_Bool, cases_lt}
use Rattle.std.proofs.lemmas.Grind.{flat_map-append}
use Rattle.std.specs.List.{fold, list_any, AllByRecursion}
use Rattle.bw_codec.specs.Grammar.{IsBlock}
use Rattle.bw_record.specs.Touch.{touches, sets}
use Rattle.bw_record.specs.declared.leaf.Leaf.{Leaf}
use Rattle.bw_record.specs.declared.block.Block.{Block}
use Rattle.bw_record.specs.declared.block.Block.TheVariants.{Delta, Base, Split}
use Rattle.bw_record.specs.declared.block.Frame.{Frame}
use Rattle.bw_buffer.specs.Marks.{mark_of}
use Rattle.bw_page.specs.Leaves.{leaf_at}
use Rattle.bw_leaf.specs.Forwards.{after, content, blocks_of}
use Rattle.bw_page.specs.Standing.{Stand}
use Rattle.bw_log.specs.Contents.{IsStanding}
use Rattle.bw_log.specs.PageTable.{IsInTable, HasLines, HaveLines, top_of, top_page}
use Rattle.bw_log.proofs.Noted.{fold-append}
use Rattle.bw_log.proofs.Walk.{none_fold, same_fold}

all-right : {X : Type 0} (P : X → Type 0) (xs ys : List X) → AllByRecursion P (xs ++ ys) → AllByRecursion P ys
all-right P [] ys all = all
all-right P (x ∷ xs) ys all = all-right P xs ys all.1

all-left : {X : Type 0} (P : X → Type 0) (xs ys : List X) → AllByRecursion P (xs ++ ys) → AllByRecursion P xs
all-left P [] ys all = tt
all-left P (x ∷ xs) ys all = (all.0, all-left P xs ys all.1)

or_true : (t : Bool) → (t || true) ≡ true
or_true true = refl
or_true false = refl

-- ---- each page of a block has a line

in_lines : (n k : ℕ) (b : Block) → 1 ≤ k → touches k b ≡ true → ((p : ℕ) → n + 1 ≤ p → touches p b ≡ false) → IsInTable k n
in_lines n k b from here beyond =
    elim (cases_lt n k) [
      | inl over ↦ absurd (let none : touches k b ≡ false = beyond k (omega arith) in let no : true ≡ false = sym here ∙ none in cc)
      | inr under ↦ (from, under)
    ]

block_lines : (m n : ℕ) (b : Block) → IsBlock m b → ((p : ℕ) → n + 1 ≤ p → touches p b ≡ false) → HasLines (mark_of b) n
block_lines m n (Delta page back ops) law beyond = in_lines n page (Delta page back ops) law.changes.0 (eq-eqb page page refl) beyond
block_lines m n (Base leaf) law beyond = in_lines n leaf.page (Base leaf) law.page.0 (eq-eqb leaf.page leaf.page refl) beyond
block_lines m n (Split page back upper) law beyond = (
  in_lines n page (Split page back upper) law.splits.0 (ap (λ (t : Bool). t || (upper.page == page)) (eq-eqb page page refl)) beyond,
  in_lines n upper.page (Split page back upper) law.makes.page.0
      (ap (λ (t : Bool). (page == upper.page) || t) (eq-eqb upper.page upper.page refl) ∙ or_true (page == upper.page)) beyond,
)

all_lines : (m n : ℕ) (bs : List Block) → AllByRecursion (IsBlock m) bs → ((p : ℕ) → n + 1 ≤ p → AllByRecursion (λ b. touches p b ≡ false) bs) → HaveLines bs n
all_lines m n [] laws beyond = tt
all_lines m n (b ∷ bs) laws beyond = (block_lines m n b laws.0 (λ p h. (beyond p h).0), all_lines m n bs laws.1 (λ p h. (beyond p h).1))

-- ---- new pages are set, and few

sets_one : (p q : ℕ) (b : Block) → sets p b ≡ true → sets q b ≡ true → p ≡ q
sets_one p q (Delta page back ops) a b = absurd cc
sets_one p q (Base leaf) a b = sym (eqb-true leaf.page p a) ∙ eqb-true leaf.page q b
sets_one p q (Split page back upper) a b = sym (eqb-true upper.page p a) ∙ eqb-true upper.page q b

-- blocks without one that sets a page set every other page still
pub record Without (p : ℕ) (bs : List Block) : Type 0 where
  pub others : List Block
  pub fewer : length others + 1 ≡ length bs
  pub set : (q : ℕ) → q ≢ p → list_any (sets q) bs ≡ true → list_any (sets q) others ≡ true

without : (p : ℕ) (bs : List Block) → list_any (sets p) bs ≡ true → Without p bs
without p [] any = absurd cc
without p (b ∷ bs) any =
    elim (cases_Bool (sets p b)) [
      | inl here ↦ record {
        others = bs;
        fewer = omega arith;
        set = λ q apart any_q. elim (cases_Bool (sets q b)) [ inl also ↦ absurd (apart (sets_one q p b also here)) | inr not_here ↦ rw not_here at any_q ];
      }
      | inr not_here ↦ (
          let rest = without p bs (rw not_here at any) in
          record {
            others = b ∷ rest.others;
            fewer = (let f = rest.fewer in omega arith);
            set = λ q apart any_q. elim (cases_Bool (sets q b)) [ inl also ↦ rw also refl | inr not_q ↦ rw not_q (rest.set q apart (rw not_q at any_q)) ];
          })
    ]

few_new : (k n : ℕ) (bs : List Block) → ((p : ℕ) → n < p → p ≤ n + k → list_any (sets p) bs ≡ true) → k ≤ length bs
few_new zero n bs set = omega arith
few_new (suc k) n bs set =
    let top = without (n + suc k) bs (set (n + suc k) (omega arith) (omega arith)) in
    let fewer = top.fewer in
    let rest = few_new k n top.others (λ p above within. top.set p (λ e. absurd (omega arith)) (set p above (omega arith))) in
    omega arith

-- ---- what standing leaves say

untouched : (p : ℕ) (bs : List Block) → AllByRecursion (λ b. touches p b ≡ false) bs → list_any (touches p) bs ≡ false
untouched p [] all = refl
untouched p (b ∷ bs) all = rw all.0 (untouched p bs all.1)

nothing_said : (p : ℕ) (bs : List Block) → AllByRecursion (λ b. touches p b ≡ false) bs → content p bs ≡ None
nothing_said p bs all = same_fold p None bs (untouched p bs all)

leaf_there : (p : ℕ) (leaves : List Leaf) → 1 ≤ p → p ≤ length leaves → leaf_at p leaves ≡ None → ⊥
leaf_there zero leaves from within none = omega arith
leaf_there (suc n) [] from within none = omega arith
leaf_there (suc zero) (l ∷ ls) from within none = cc
leaf_there (suc (suc n)) (l ∷ ls) from within none = leaf_there (suc n) ls (omega arith) (omega arith) none

-- a page that standing frames do not have was not said anything of
old_pages : (m : ℕ) (all : List Frame) (n p : ℕ) → IsStanding m all n → n < p → content p (blocks_of all) ≡ None
old_pages m all n p (inl none) beyond = ap (λ (fs : List Frame). content p (blocks_of fs)) none.0
old_pages m all n p (inr old) beyond = let same = old.2 in nothing_said p (blocks_of all) (old.1.all p (omega arith))

blocks_more : (all : List Frame) (x : Frame) → blocks_of (all ++ x ∷ []) ≡ blocks_of all ++ x.blocks
blocks_more all x = flat_map-append (λ (f : Frame). f.blocks) all (x ∷ []) ∙ ap (λ (l : List Block). blocks_of all ++ l) (append-nil x.blocks)

-- a new page is set in the new frame
new_page_set : (m : ℕ) (all : List Frame) (n : ℕ) (x : Frame) (leaves : List Leaf) (p : ℕ) → IsStanding m all n → Stand m (all ++ x ∷ []) leaves → n < p
    → p ≤ length leaves → list_any (sets p) x.blocks ≡ true
new_page_set m all n x leaves p old new above within =
    elim (cases_Bool (list_any (sets p) x.blocks)) [
      | inl set ↦ set
      | inr unset ↦ (
          let before = old_pages m all n p old above in
          let now : content p (blocks_of (all ++ x ∷ [])) ≡ None =
          ap (content p) (blocks_more all x) ∙ fold-append (after p) None (blocks_of all) x.blocks ∙ ap (λ (o : Option Leaf). fold (after p) o x.blocks) before
          ∙ none_fold p x.blocks unset in
          absurd (leaf_there p leaves (omega arith) within (sym (new.each p (omega arith) within) ∙ now)))
    ]

set_is_touch : (p : ℕ) (b : Block) → sets p b ≡ true → p ≤ top_of (mark_of b)
set_is_touch p (Delta page back ops) set = absurd cc
set_is_touch p (Base leaf) set = let e = eqb-true leaf.page p set in omega arith
set_is_touch p (Split page back upper) set = let e = eqb-true upper.page p set in omega arith

set_within : (p : ℕ) (bs : List Block) → list_any (sets p) bs ≡ true → p ≤ top_page bs
set_within p [] any = absurd cc
set_within p (b ∷ bs) any =
    elim (cases_Bool (sets p b)) [
      | inl here ↦ (let t = set_is_touch p b here in omega arith)
      | inr not_here ↦ (let t = set_within p bs (rw not_here at any) in omega arith)
    ]

top_of_line : (n : ℕ) (b : Block) → HasLines (mark_of b) n → top_of (mark_of b) ≤ n
top_of_line n (Delta page back ops) line = line.1
top_of_line n (Base leaf) line = line.1
top_of_line n (Split page back upper) line = let a = line.0 in let b = line.1 in omega arith

top_within : (n : ℕ) (bs : List Block) → HaveLines bs n → top_page bs ≤ n
top_within n [] lines = omega arith
top_within n (b ∷ bs) lines = let a = top_of_line n b lines.0 in let t = top_within n bs lines.1 in omega arith

-- what a frame's blocks ask of a table of n lines, if it stands for so many pages
pub record NewLines (bs : List Block) (n pages : ℕ) : Type 0 where
  pub lines : HaveLines bs pages
  pub few : pages ≤ n + length bs
  pub reach : n + (top_page bs - n) ≡ pages
  pub more : n ≤ pages

old_stays : (m : ℕ) (all : List Frame) (n : ℕ) (x : Frame) (leaves : List Leaf) → IsStanding m all n → Stand m (all ++ x ∷ []) leaves → n ≤ length leaves
old_stays m all n x leaves (inl none) new = let e = none.1 in omega arith
old_stays m all n x leaves (inr old) new =
    elim (cases_lt (length leaves) n) [
      | inr fits ↦ fits
      | inl over ↦ (
          let same = old.2 in
          let gone : AllByRecursion (λ b. touches n b ≡ false) (blocks_of all ++ x.blocks) =
          subst (λ (bs : List Block). AllByRecursion (λ b. touches n b ≡ false) bs) (blocks_more all x) (new.all n (omega arith)) in
          let none : content n (blocks_of all) ≡ None =
          nothing_said n (blocks_of all) (all-left (λ (b : Block). touches n b ≡ false) (blocks_of all) x.blocks gone) in
          absurd (leaf_there n old.0 (omega arith) (omega arith) (sym (old.1.each n (omega arith) (omega arith)) ∙ none)))
    ]

pub new_lines : (m : ℕ) (all : List Frame) (n : ℕ) (x : Frame) (leaves : List Leaf) → AllByRecursion (IsBlock m) x.blocks → IsStanding m all n
    → Stand m (all ++ x ∷ []) leaves → NewLines x.blocks n (length leaves)
new_lines m all n x leaves laws old new =
    let beyond : (p : ℕ) → length leaves + 1 ≤ p → AllByRecursion (λ b. touches p b ≡ false) x.blocks =
    λ p above. all-right (λ (b : Block). touches p b ≡ false) (blocks_of all) x.blocks
    (subst (λ (bs : List Block). AllByRecursion (λ b. touches p b ≡ false) bs) (blocks_more all x) (new.all p above)) in
    let lines = all_lines m (length leaves) x.blocks laws beyond in
    let more = old_stays m all n x leaves old new in
    let few = few_new (length leaves - n) n x.blocks (λ p above within. new_page_set m all n x leaves p old new above (omega arith)) in
    let within = top_within (length leaves) x.blocks lines in
    let reach : n + (top_page x.blocks - n) ≡ length leaves =
    elim (cases_lt n (length leaves)) [
      | inl grows ↦ (let top = set_within (length leaves) x.blocks (new_page_set m all n x leaves (length leaves) old new grows (omega arith)) in omega arith)
      | inr stays ↦ omega arith
    ] in
    record { lines = lines; few = omega arith; reach = reach; more = more }
