-- What stands is found again: no page is at fault, and the pages are those leaves.

use Rattle.std.proofs.Common.{inl, inr, ◌≡◌, ℕ, zero, suc, ◌+◌, ◌<◌, ◌≤◌, ◌==◌, ◌&&◌, ◌||◌, not, nat_lt, Bool, true, false, if◌then◌else◌}
use Rattle.std.proofs.Common.{Option, Some, None, List, [], ◌∷◌, length, slice_get, IsTrue, refl, sym, ap, ◌∙◌, subst, arith}
use Rattle.std.specs.List.{flat_map, list_any, AllByRecursion}
use Rattle.std.proofs.lemmas.Bool.{or_from, eqb-true, eq-eqb, ltb-true, le-ltb, true≢false, cases_lt}
use lib.Pointwise.{bytes_decides}
use Rattle.bw_record.specs.Keys.{is_below}
use Rattle.bw_codec.specs.Grammar.{IsBase, IsBlock}
use Rattle.bw_record.specs.Touch.{touches}
use Rattle.bw_record.specs.declared.leaf.Leaf.{Leaf}
use Rattle.bw_record.specs.declared.block.Block.{Block}
use Rattle.bw_record.specs.declared.block.Block.TheVariants.{Delta, Base, Split}
use Rattle.bw_record.proofs.Order.{must_not}
use Rattle.bw_leaf.specs.Changed.{Bytes}
use Rattle.bw_page.specs.Leaves.{leaf_at, AreNumbered, BeginsEmpty, HaveOwnLows, AreLeaves}
use Rattle.bw_page.specs.Laws.{LiesBetween}
use Rattle.bw_leaf.specs.Forwards.{content}
use Rattle.bw_page.proofs.Ranges.{homes_ranges}
use Rattle.bw_log.proofs.Walk.{same_fold}
use Rattle.bw_lines.specs.Lawful.{as_list, page_set, set_by, leaves_set, is_same, has_low_before, is_astray, has_wrong_low, is_bad_leaf, is_bad_page}
use Rattle.bw_lines.specs.Lawful.{is_at_fault, first_such}
use Rattle.bw_lines.proofs.PagesAtFault.{NoneAtFault}
use Rattle.bw_log.proofs.Entries.{all_append}
use Rattle.bw_lines.proofs.Tests.{and_not, not_true}

-- ---- tests that fail

none_any : {X : Type 0} (test : X → Bool) (xs : List X) → AllByRecursion (λ x. test x ≡ false) xs → list_any test xs ≡ false
none_any test [] all = refl
none_any test (x ∷ xs) all = ap (λ (t : Bool). t || list_any test xs) all.0 ∙ none_any test xs all.1

none_first : (test : ℕ → Bool) (p n : ℕ) → ((k : ℕ) → p ≤ k → k < p + n → test k ≡ false) → first_such test p n ≡ None
unfolding first_such
none_first test p zero all = refl
none_first test p (suc n) all = rw (all p (omega arith) (omega arith), first_such) (none_first test (p + 1) n (λ k from to. all k (omega arith) (omega arith)))

-- ---- a leaf of lawful leaves

pub leaf_there : (leaves : List Leaf) (n i : ℕ) → i < length leaves → (l : Leaf) × (slice_get leaves i ≡ Some l)
leaf_there [] n i inside = absurd (omega arith)
leaf_there (l ∷ ls) n zero inside = (l, refl)
leaf_there (l ∷ ls) n (suc i) inside = leaf_there ls n i (omega arith)

all_there : {X : Type 0} (P : X → Type 0) (xs : List X) (i : ℕ) (x : X) → slice_get xs i ≡ Some x → AllByRecursion P xs → P x
all_there P [] i x is all = absurd cc
all_there P (y ∷ ys) zero x is all = (let same : y ≡ x = cc in subst P same all.0)
all_there P (y ∷ ys) (suc i) x is all = all_there P ys i x is all.1

-- a page of leaves that stand
pub record IsOf (leaves : List Leaf) (l : Leaf) : Type 0 where
  pub at : ℕ
  pub is : slice_get leaves at ≡ Some l

page_of_leaf : (blocks : List Block) (leaves : List Leaf) (p : ℕ) (l : Leaf) → ((q : ℕ) → 1 ≤ q → q ≤ length leaves → content q blocks ≡ leaf_at q leaves)
    → 1 ≤ p → p ≤ length leaves → content p blocks ≡ Some l → IsOf leaves l
page_of_leaf blocks leaves zero l each from to is = absurd (omega arith)
page_of_leaf blocks leaves (suc i) l each from to is = record { at = i; is = sym (each (suc i) from to) ∙ is }

-- blocks, read forwards, are these leaves
pub record Stands (m : ℕ) (blocks : List Block) (leaves : List Leaf) : Type 0 where
  pub lawful : AreLeaves m leaves
  pub each : (p : ℕ) → 1 ≤ p → p ≤ length leaves → content p blocks ≡ leaf_at p leaves
  pub all : (p : ℕ) → length leaves + 1 ≤ p → AllByRecursion (λ b. touches p b ≡ false) blocks

-- ---- each page that is set is one of them

any_by : (test : Block → Bool) (bs : List Block) → AllByRecursion (λ b. test b ≡ false) bs → list_any test bs ≡ false
any_by test bs all = none_any test bs all

pub beyond_none : (blocks : List Block) (p : ℕ) → AllByRecursion (λ b. touches p b ≡ false) blocks → content p blocks ≡ None
beyond_none blocks p all = same_fold p None blocks (any_by (touches p) blocks all)

set_of : (m : ℕ) (blocks : List Block) (leaves : List Leaf) (p : ℕ) (l : Leaf) → Stands m blocks leaves → 1 ≤ p → content p blocks ≡ Some l → IsOf leaves l
set_of m blocks leaves p l s from is =
    elim (cases_lt (length leaves) p) [
      | inl beyond ↦ (let none = beyond_none blocks p (s.all p (omega arith)) in absurd cc)
      | inr within ↦ page_of_leaf blocks leaves p l s.each from within is
    ]

as_all : (blocks : List Block) (P : Leaf → Type 0) (p : ℕ) (o : Option Leaf) → content p blocks ≡ o → ((l : Leaf) → content p blocks ≡ Some l → P l)
    → AllByRecursion P (as_list o)
as_all blocks P p None is each = tt
as_all blocks P p (Some l) is each = (each l is, tt)

pub set_all_by : (m : ℕ) (blocks : List Block) (P : Leaf → Type 0) → ((p : ℕ) (l : Leaf) → 1 ≤ p → content p blocks ≡ Some l → P l) → (bs : List Block)
    → AllByRecursion (IsBlock m) bs → AllByRecursion P (flat_map (λ b. set_by blocks (page_set b)) bs)
set_all_by m blocks P each [] laws = tt
set_all_by m blocks P each (Delta page back ops ∷ bs) laws = set_all_by m blocks P each bs laws.1
set_all_by m blocks P each (Base l ∷ bs) laws =
    all_append P (as_list (content l.page blocks)) (flat_map (λ b. set_by blocks (page_set b)) bs)
    (as_all blocks P l.page (content l.page blocks) refl (λ x is. each l.page x laws.0.page.0 is)) (set_all_by m blocks P each bs laws.1)
set_all_by m blocks P each (Split page back l ∷ bs) laws =
    all_append P (as_list (content l.page blocks)) (flat_map (λ b. set_by blocks (page_set b)) bs)
    (as_all blocks P l.page (content l.page blocks) refl (λ x is. each l.page x laws.0.makes.page.0 is)) (set_all_by m blocks P each bs laws.1)

-- what holds of each leaf holds of each page that is set
pub set_all : (m : ℕ) (blocks : List Block) (leaves : List Leaf) (P : Leaf → Type 0) → Stands m blocks leaves → AllByRecursion (IsBlock m) blocks
    → AllByRecursion P leaves → AllByRecursion P (leaves_set blocks)
set_all m blocks leaves P s laws all =
    set_all_by m blocks P (λ p l from is. (let of = set_of m blocks leaves p l s from is in all_there P leaves of.at l of.is all)) blocks laws

-- ---- no page is at fault

low_by : (t : Bool) (low : Bytes) → (t ≡ true → low ≡ []) → (t ≡ false → low ≡ [] → ⊥) → (if t then not (is_same low []) else is_same low []) ≡ false
low_by true low one other = ap not ((bytes_decides low []).1 (one refl))
low_by false low one other = must_not (is_same low []) (λ e. other refl ((bytes_decides low []).0 e))

right_low : (leaves : List Leaf) (l : Leaf) → BeginsEmpty leaves → AreNumbered 1 leaves → HaveOwnLows leaves
    → AllByRecursion (λ b. l.low ≡ b.low → l.page ≡ b.page) leaves → (l.page ≡ 1 → l.low ≡ []) → has_wrong_low l ≡ false
right_low [] l begins pages own here one = absurd begins
right_low (a ∷ ls) l begins pages own here one =
    low_by (l.page == 1) l.low (λ e. one (eqb-true l.page 1 e))
    (λ e empty. (let same : l.page ≡ 1 = here.0 (empty ∙ sym begins) ∙ pages.0 in true≢false (sym (eq-eqb l.page 1 same) ∙ e)))

numbered_at : (n : ℕ) (ls : List Leaf) (i : ℕ) (l : Leaf) → AreNumbered n ls → slice_get ls i ≡ Some l → l.page ≡ n + i
numbered_at n [] i l pages is = absurd cc
numbered_at n (x ∷ xs) zero l pages is = (let same : x ≡ l = cc in let at : n ≡ n + 0 = omega arith in ap (λ (y : Leaf). y.page) (sym same) ∙ pages.0 ∙ at)
numbered_at n (x ∷ xs) (suc i) l pages is = (let more = numbered_at (n + 1) xs i l pages.1 is in omega arith)

first_empty : (leaves : List Leaf) (i : ℕ) (l : Leaf) → BeginsEmpty leaves → AreNumbered 1 leaves → slice_get leaves i ≡ Some l → l.page ≡ 1 → l.low ≡ []
first_empty [] i l begins pages is one = absurd begins
first_empty (a ∷ ls) zero l begins pages is one = (let same : a ≡ l = cc in ap (λ (y : Leaf). y.low) (sym same) ∙ begins)
first_empty (a ∷ ls) (suc i) l begins pages is one = (let at = numbered_at 1 (a ∷ ls) (suc i) l pages is in absurd (omega arith))

all_of : {X : Type 0} (P Q : X → Type 0) (xs : List X) → ((x : X) → P x → Q x) → AllByRecursion P xs → AllByRecursion Q xs
all_of P Q [] f all = tt
all_of P Q (x ∷ xs) f all = (f x all.0, all_of P Q xs f all.1)

good_there : (m : ℕ) (blocks : List Block) (leaves : List Leaf) (i : ℕ) (l : Leaf) → Stands m blocks leaves → AllByRecursion (IsBlock m) blocks
    → slice_get leaves i ≡ Some l → is_bad_leaf m (leaves_set blocks) l ≡ false
good_there m blocks leaves i l s laws is =
    let ranged = homes_ranges m leaves s.lawful in
    let own : AllByRecursion (λ (b : Leaf). l.low ≡ b.low → l.page ≡ b.page) leaves =
    all_there (λ a. AllByRecursion (λ b. a.low ≡ b.low → a.page ≡ b.page) leaves) leaves i l is ranged.lows in
    let low = right_low leaves l ranged.first ranged.pages ranged.lows own (λ one. first_empty leaves i l ranged.first ranged.pages is one) in
    let before : has_low_before (leaves_set blocks) l ≡ false =
    none_any (λ (k : Leaf). nat_lt k.page l.page && is_same k.low l.low) (leaves_set blocks)
    (set_all m blocks leaves (λ k. nat_lt k.page l.page && is_same k.low l.low ≡ false) s laws
    (all_of (λ (b : Leaf). l.low ≡ b.low → l.page ≡ b.page) (λ (k : Leaf). nat_lt k.page l.page && is_same k.low l.low ≡ false) leaves
    (λ k same. and_not (nat_lt k.page l.page) (is_same k.low l.low)
    (λ less eq. (let pages = same (sym ((bytes_decides k.low l.low).0 eq)) in let lower = ltb-true k.page l.page less in omega arith))) own)) in
    let base : IsBase m l = all_there (IsBase m) leaves i l is ranged.each in
    let few : nat_lt m (length l.pairs) ≡ false = (let c = base.count in le-ltb m (length l.pairs) (omega arith)) in
    let between : AllByRecursion (λ (p : Bytes × Bytes). LiesBetween leaves l p.0) l.pairs =
    all_there (λ x. AllByRecursion (λ p. LiesBetween leaves x p.0) x.pairs) leaves i l is ranged.ranges in
    let near : list_any (λ (p : Bytes × Bytes). is_astray (leaves_set blocks) l p.0) l.pairs ≡ false =
    none_any (λ (p : Bytes × Bytes). is_astray (leaves_set blocks) l p.0) l.pairs
    (all_of (λ (p : Bytes × Bytes). LiesBetween leaves l p.0) (λ (p : Bytes × Bytes). is_astray (leaves_set blocks) l p.0 ≡ false) l.pairs
    (λ p lies. or_from (is_below p.0 l.low) (list_any (λ k. is_below l.low k.low && not (is_below p.0 k.low)) (leaves_set blocks)) lies.0
    (none_any (λ (k : Leaf). is_below l.low k.low && not (is_below p.0 k.low)) (leaves_set blocks)
    (set_all m blocks leaves (λ k. is_below l.low k.low && not (is_below p.0 k.low) ≡ false) s laws
    (all_of (λ (k : Leaf). IsTrue (is_below l.low k.low) → IsTrue (is_below p.0 k.low))
    (λ (k : Leaf). is_below l.low k.low && not (is_below p.0 k.low) ≡ false) leaves
    (λ k over. and_not (is_below l.low k.low) (not (is_below p.0 k.low)) (λ more under. true≢false (sym (over more) ∙ not_true (is_below p.0 k.low) under)))
    lies.1)))) between) in
    or_from (has_wrong_low l || has_low_before (leaves_set blocks) l || nat_lt m (length l.pairs)) (list_any (λ p. is_astray (leaves_set blocks) l p.0) l.pairs)
    (or_from (has_wrong_low l || has_low_before (leaves_set blocks) l) (nat_lt m (length l.pairs))
    (or_from (has_wrong_low l) (has_low_before (leaves_set blocks) l) low before) few) near

good_page : (m : ℕ) (blocks : List Block) (leaves : List Leaf) (p : ℕ) → Stands m blocks leaves → AllByRecursion (IsBlock m) blocks → 1 ≤ p → p ≤ length leaves
    → is_at_fault m blocks p ≡ false
good_page m blocks leaves zero s laws from to = absurd (omega arith)
good_page m blocks leaves (suc i) s laws from to =
    let there = leaf_there leaves 0 i (omega arith) in
    ap (is_bad_page m (leaves_set blocks)) (s.each (suc i) from to ∙ there.1) ∙ good_there m blocks leaves i there.0 s laws there.1

pub stands_again : (m : ℕ) (blocks : List Block) (leaves : List Leaf) → Stands m blocks leaves → AllByRecursion (IsBlock m) blocks
    → NoneAtFault m blocks (length leaves)
stands_again m blocks leaves s laws = none_first (is_at_fault m blocks) 1 (length leaves) (λ k from to. good_page m blocks leaves k s laws from (omega arith))
