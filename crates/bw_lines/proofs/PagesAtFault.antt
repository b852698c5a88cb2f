-- Where no page is at fault, the pages that stand are lawful leaves.

use Rattle.std.proofs.Common.{inl, inr, ◌≡◌, ℕ, zero, suc, ◌+◌, ◌^◌, ◌<◌, ◌≤◌, ◌==◌, ◌&&◌, ◌||◌, not, nat_lt, Bool, true, false}
use Rattle.std.proofs.Common.{if◌then◌else◌, Option, Some, None, List, [], ◌∷◌, ◌++◌, length, slice_get, IsTrue, refl, sym, ap, ◌∙◌, subst, arith}
use Rattle.std.specs.List.{flat_map, list_any, AllByRecursion}
use Rattle.std.proofs.lemmas.Bool.{or_parts, eqb-true, eq-eqb, ltb-false, lt-ltb, true≢false, cases_lt}
use lib.Pointwise.{bytes_decides}
use Rattle.bw_record.specs.Keys.{is_below}
use Rattle.bw_codec.specs.Grammar.{IsBase, IsBlock}
use Rattle.bw_record.specs.Touch.{sets}
use Rattle.bw_record.specs.declared.leaf.Leaf.{Leaf}
use Rattle.bw_record.specs.declared.block.Block.{Block}
use Rattle.bw_record.specs.declared.block.Block.TheVariants.{Delta, Base, Split}
use Rattle.bw_leaf.specs.Changed.{Bytes}
use Rattle.bw_page.specs.Leaves.{AreNumbered, BeginsEmpty, AreLeaves}
use Rattle.bw_page.specs.Laws.{LiesBetween}
use Rattle.bw_leaf.specs.Forwards.{content}
use Rattle.bw_page.proofs.Ranges.{ranges_homes}
use Rattle.bw_log.proofs.Walk.{none_fold}
use Rattle.bw_lines.specs.Lawful.{as_list, page_set, set_by, leaves_set, is_same, has_low_before, is_astray, has_wrong_low, is_bad_leaf, is_bad_page}
use Rattle.bw_lines.specs.Lawful.{is_at_fault, first_such, contents}
use Rattle.bw_lines.proofs.PageShape.{content_shaped, shaped_base}

-- ---- lists

any_none : {X : Type 0} (test : X → Bool) (xs : List X) → list_any test xs ≡ false → AllByRecursion (λ x. test x ≡ false) xs
any_none test [] e = tt
any_none test (x ∷ xs) e = let two = or_parts (test x) (list_any test xs) e in (two.0, any_none test xs two.1)

all_with : {X : Type 0} (P Q : X → Type 0) (xs : List X) → ((x : X) → P x → Q x) → AllByRecursion P xs → AllByRecursion Q xs
all_with P Q [] f all = tt
all_with P Q (x ∷ xs) f all = (f x all.0, all_with P Q xs f all.1)

all_right : {X : Type 0} (P : X → Type 0) (xs ys : List X) → AllByRecursion P (xs ++ ys) → AllByRecursion P ys
all_right P [] ys all = all
all_right P (x ∷ xs) ys all = all_right P xs ys all.1

-- ---- no number passes

none_by : (test : ℕ → Bool) (p n : ℕ) (t : Bool) → test p ≡ t → (if t then Some p else first_such test (p + 1) n) ≡ None
    → (test p ≡ false) × (first_such test (p + 1) n ≡ None)
none_by test p n true is none = absurd cc
none_by test p n false is none = (is, none)

pub none_such : (test : ℕ → Bool) (p n k : ℕ) → first_such test p n ≡ None → p ≤ k → k < p + n → test k ≡ false
unfolding first_such
none_such test p zero k none from to = absurd (omega arith)
none_such test p (suc n) k none from to =
    let two = none_by test p n (test p) refl none in
    elim (cases_lt p k) [
      | inl more ↦ none_such test (p + 1) n k two.1 (omega arith) (omega arith)
      | inr less ↦ (let same : p ≡ k = omega arith in subst (λ (i : ℕ). test i ≡ false) same two.0)
    ]

-- ---- pages that are set

set_here : (blocks : List Block) (P : Leaf → Type 0) (p q : ℕ) (leaf : Leaf) (others : List Leaf) → (q == p) ≡ true → content p blocks ≡ Some leaf
    → AllByRecursion P (as_list (content q blocks) ++ others) → P leaf
set_here blocks P p q leaf others e is all =
    (subst (λ (o : Option Leaf). AllByRecursion P (as_list o ++ others)) (ap (λ (k : ℕ). content k blocks) (eqb-true q p e) ∙ is) all).0

in_rest : (blocks : List Block) (P : Leaf → Type 0) (p q : ℕ) (leaf : Leaf) (bs : List Block) (t : Bool) → (q == p) ≡ t → content p blocks ≡ Some leaf
    → (list_any (sets p) bs ≡ true → P leaf) → (t || list_any (sets p) bs) ≡ true
    → AllByRecursion P (as_list (content q blocks) ++ flat_map (λ b. set_by blocks (page_set b)) bs) → P leaf
in_rest blocks P p q leaf bs true t is others e all = set_here blocks P p q leaf (flat_map (λ b. set_by blocks (page_set b)) bs) t is all
in_rest blocks P p q leaf bs false t is others e all = others e

in_set_by : (blocks : List Block) (P : Leaf → Type 0) (p : ℕ) (leaf : Leaf) → content p blocks ≡ Some leaf → (bs : List Block) → list_any (sets p) bs ≡ true
    → AllByRecursion P (flat_map (λ b. set_by blocks (page_set b)) bs) → P leaf
in_set_by blocks P p leaf is [] e all = absurd cc
in_set_by blocks P p leaf is (Delta page back ops ∷ bs) e all = in_set_by blocks P p leaf is bs e all
in_set_by blocks P p leaf is (Base l ∷ bs) e all =
    in_rest blocks P p l.page leaf bs (l.page == p) refl is
    (λ e1. in_set_by blocks P p leaf is bs e1 (all_right P (as_list (content l.page blocks)) (flat_map (λ b. set_by blocks (page_set b)) bs) all)) e all
in_set_by blocks P p leaf is (Split page back l ∷ bs) e all =
    in_rest blocks P p l.page leaf bs (l.page == p) refl is
    (λ e1. in_set_by blocks P p leaf is bs e1 (all_right P (as_list (content l.page blocks)) (flat_map (λ b. set_by blocks (page_set b)) bs) all)) e all

set_somewhere : (p : ℕ) (bs : List Block) (leaf : Leaf) (t : Bool) → list_any (sets p) bs ≡ t → content p bs ≡ Some leaf → t ≡ true
set_somewhere p bs leaf true e is = refl
set_somewhere p bs leaf false e is = (let none = none_fold p bs e in absurd cc)

pub in_set : (blocks : List Block) (P : Leaf → Type 0) (p : ℕ) (leaf : Leaf) → content p blocks ≡ Some leaf → AllByRecursion P (leaves_set blocks) → P leaf
in_set blocks P p leaf is all = in_set_by blocks P p leaf is blocks (set_somewhere p blocks leaf (list_any (sets p) blocks) refl is) all

-- ---- leaves in a row

contents_by : (blocks : List Block) (p n : ℕ) (o : Option Leaf) → content p blocks ≡ o → contents blocks p (suc n) ≡ as_list o ++ contents blocks (p + 1) n
unfolding contents
contents_by blocks p n None is = rw (is, contents) refl
contents_by blocks p n (Some leaf) is = rw (is, contents) refl

-- each page in a row is set
abbrev pub AreSet : List Block → ℕ → ℕ → Type 0
AreSet blocks p n = (k : ℕ) → p ≤ k → k < p + n → (leaf : Leaf) × (content k blocks ≡ Some leaf)

set_later : (blocks : List Block) (p n : ℕ) → AreSet blocks p (suc n) → AreSet blocks (p + 1) n
set_later blocks p n set k from to = set k (omega arith) (omega arith)

contents_more : (blocks : List Block) (p n : ℕ) (set : AreSet blocks p (suc n))
    → contents blocks p (suc n) ≡ (set p (omega arith) (omega arith)).0 ∷ contents blocks (p + 1) n
contents_more blocks p n set = let here = set p (omega arith) (omega arith) in contents_by blocks p n (Some here.0) here.1

pub contents_all : (blocks : List Block) (P : Leaf → Type 0) (p n : ℕ) → AreSet blocks p n
    → ((k : ℕ) (leaf : Leaf) → p ≤ k → k < p + n → content k blocks ≡ Some leaf → P leaf) → AllByRecursion P (contents blocks p n)
unfolding contents
contents_all blocks P p zero set each = tt
contents_all blocks P p (suc n) set each =
    let here = set p (omega arith) (omega arith) in
    subst (AllByRecursion P) (sym (contents_by blocks p n (Some here.0) here.1)) (
      each p here.0 (omega arith) (omega arith) here.1,
      contents_all blocks P (p + 1) n (set_later blocks p n set) (λ k leaf from to. each k leaf (omega arith) (omega arith)),
    )

pub contents_length : (blocks : List Block) (p n : ℕ) → AreSet blocks p n → length (contents blocks p n) ≡ n
unfolding contents
contents_length blocks p zero set = refl
contents_length blocks p (suc n) set =
    let here = set p (omega arith) (omega arith) in
    ap (λ (l : List Leaf). length l) (contents_by blocks p n (Some here.0) here.1) ∙ ap suc (contents_length blocks (p + 1) n (set_later blocks p n set))

pub contents_at : (blocks : List Block) (p n i : ℕ) → AreSet blocks p n → i < n → content (p + i) blocks ≡ slice_get (contents blocks p n) i
contents_at blocks p zero i set inside = absurd (omega arith)
contents_at blocks p (suc n) zero set inside =
    let here = set p (omega arith) (omega arith) in
    let at : p + 0 ≡ p = omega arith in
    ap (λ (k : ℕ). content k blocks) at ∙ here.1 ∙ sym (ap (λ (l : List Leaf). slice_get l 0) (contents_by blocks p n (Some here.0) here.1))
contents_at blocks p (suc n) (suc i) set inside =
    let here = set p (omega arith) (omega arith) in
    let at : p + suc i ≡ (p + 1) + i = omega arith in
    ap (λ (k : ℕ). content k blocks) at ∙ contents_at blocks (p + 1) n i (set_later blocks p n set) (omega arith)
    ∙ sym (ap (λ (l : List Leaf). slice_get l (suc i)) (contents_by blocks p n (Some here.0) here.1))

pub contents_numbered : (m : ℕ) (blocks : List Block) (p n : ℕ) → AllByRecursion (IsBlock m) blocks → AreSet blocks p n → AreNumbered p (contents blocks p n)
unfolding contents
contents_numbered m blocks p zero laws set = tt
contents_numbered m blocks p (suc n) laws set =
    let here = set p (omega arith) (omega arith) in
    subst (AreNumbered p) (sym (contents_by blocks p n (Some here.0) here.1))
    ((content_shaped m p blocks here.0 laws here.1).page, contents_numbered m blocks (p + 1) n laws (set_later blocks p n set))

-- ---- a page that is not at fault

good_page : (m : ℕ) (set : List Leaf) (o : Option Leaf) → is_bad_page m set o ≡ false → (leaf : Leaf) × (o ≡ Some leaf)
good_page m set None e = absurd cc
good_page m set (Some leaf) e = (leaf, refl)

-- what is not wrong with its leaf
pub record IsGood (m : ℕ) (set : List Leaf) (leaf : Leaf) : Type 0 where
  pub low : has_wrong_low leaf ≡ false
  pub own : has_low_before set leaf ≡ false
  pub few : length leaf.pairs ≤ m
  pub near : list_any (λ p. is_astray set leaf p.0) leaf.pairs ≡ false

good_leaf : (m : ℕ) (set : List Leaf) (leaf : Leaf) → is_bad_leaf m set leaf ≡ false → IsGood m set leaf
good_leaf m set leaf e =
    let a = or_parts (has_wrong_low leaf || has_low_before set leaf || nat_lt m (length leaf.pairs)) (list_any (λ p. is_astray set leaf p.0) leaf.pairs) e in
    let b = or_parts (has_wrong_low leaf || has_low_before set leaf) (nat_lt m (length leaf.pairs)) a.0 in
    let c = or_parts (has_wrong_low leaf) (has_low_before set leaf) b.0 in
    record { low = c.0; own = c.1; few = ltb-false m (length leaf.pairs) b.1; near = a.1 }

both_not : (a b : Bool) → (a && b) ≡ false → a ≡ true → b ≡ true → ⊥
both_not true true e x y = absurd cc
both_not false b e x y = absurd cc
both_not true false e x y = absurd cc

not_not : (b : Bool) → (not b ≡ true → ⊥) → b ≡ true
not_not true h = refl
not_not false h = absurd (h refl)

-- a page before it has another low
pub own_low : (set : List Leaf) (leaf l : Leaf) → nat_lt l.page leaf.page && is_same l.low leaf.low ≡ false → l.page < leaf.page → l.low ≡ leaf.low → ⊥
own_low set leaf l e less same = both_not (nat_lt l.page leaf.page) (is_same l.low leaf.low) e (lt-ltb l.page leaf.page less)
    ((bytes_decides l.low leaf.low).1 same)

-- its keys lie in its range
near_key : (set : List Leaf) (leaf : Leaf) (key : Bytes) → is_astray set leaf key ≡ false
    → (is_below key leaf.low ≡ false) × AllByRecursion (λ l. IsTrue (is_below leaf.low l.low) → IsTrue (is_below key l.low)) set
near_key set leaf key e =
    let two = or_parts (is_below key leaf.low) (list_any (λ l. is_below leaf.low l.low && not (is_below key l.low)) set) e in (
      two.0,
      all_with (λ (l : Leaf). is_below leaf.low l.low && not (is_below key l.low) ≡ false)
          (λ (l : Leaf). IsTrue (is_below leaf.low l.low) → IsTrue (is_below key l.low)) set
          (λ l no over. not_not (is_below key l.low) (both_not (is_below leaf.low l.low) (not (is_below key l.low)) no over))
          (any_none (λ l. is_below leaf.low l.low && not (is_below key l.low)) set two.1),
    )

-- ---- all pages from 1 to the last

-- no page is at fault
abbrev pub NoneAtFault : ℕ → List Block → ℕ → Type 0
NoneAtFault m blocks n = first_such (is_at_fault m blocks) 1 n ≡ None

pub all_set : (m : ℕ) (blocks : List Block) (n : ℕ) → NoneAtFault m blocks n → AreSet blocks 1 n
all_set m blocks n none k from to = good_page m (leaves_set blocks) (content k blocks) (none_such (is_at_fault m blocks) 1 n k none from to)

all_good : (m : ℕ) (blocks : List Block) (n k : ℕ) (leaf : Leaf) → NoneAtFault m blocks n → 1 ≤ k → k < 1 + n → content k blocks ≡ Some leaf
    → IsGood m (leaves_set blocks) leaf
all_good m blocks n k leaf none from to is =
    good_leaf m (leaves_set blocks) leaf (ap (is_bad_page m (leaves_set blocks)) (sym is) ∙ none_such (is_at_fault m blocks) 1 n k none from to)

-- of two pages with one low the other is not before
not_before : (m : ℕ) (blocks : List Block) (n i k : ℕ) (a b : Leaf) → NoneAtFault m blocks n → 1 ≤ k → k < 1 + n → content i blocks ≡ Some a
    → content k blocks ≡ Some b → a.low ≡ b.low → a.page < b.page → ⊥
not_before m blocks n i k a b none from to is_a is_b same less =
    let good = all_good m blocks n k b none from to is_b in
    let none_before = any_none (λ (l : Leaf). nat_lt l.page b.page && is_same l.low b.low) (leaves_set blocks) good.own in
    own_low (leaves_set blocks) b a (in_set blocks (λ (l : Leaf). nat_lt l.page b.page && is_same l.low b.low ≡ false) i a is_a none_before) less same

own_lows : (m : ℕ) (blocks : List Block) (n i k : ℕ) (a b : Leaf) → NoneAtFault m blocks n → 1 ≤ i → i < 1 + n → 1 ≤ k → k < 1 + n → content i blocks ≡ Some a
    → content k blocks ≡ Some b → a.low ≡ b.low → a.page ≡ b.page
own_lows m blocks n i k a b none from_i to_i from to is_a is_b same =
    elim (cases_lt a.page b.page) [
      | inl less ↦ absurd (not_before m blocks n i k a b none from to is_a is_b same less)
      | inr more ↦ elim (cases_lt b.page a.page) [
        | inl less ↦ absurd (not_before m blocks n k i b a none from_i to_i is_b is_a (sym same) less)
        | inr equal ↦ omega arith
      ]
    ]

between : (m : ℕ) (blocks : List Block) (n k : ℕ) (leaf : Leaf) → NoneAtFault m blocks n → AreSet blocks 1 n → 1 ≤ k → k < 1 + n → content k blocks ≡ Some leaf
    → AllByRecursion (λ p. LiesBetween (contents blocks 1 n) leaf p.0) leaf.pairs
between m blocks n k leaf none set from to is =
    let good = all_good m blocks n k leaf none from to is in
    all_with (λ (p : Bytes × Bytes). is_astray (leaves_set blocks) leaf p.0 ≡ false)
    (λ (p : Bytes × Bytes). LiesBetween (contents blocks 1 n) leaf p.0) leaf.pairs
    (λ p e. (let near = near_key (leaves_set blocks) leaf p.0 e in (
      near.0,
      contents_all blocks (λ (l : Leaf). IsTrue (is_below leaf.low l.low) → IsTrue (is_below p.0 l.low)) 1 n set
          (λ i l from_i to_i is_l. in_set blocks (λ (l : Leaf). IsTrue (is_below leaf.low l.low) → IsTrue (is_below p.0 l.low)) i l is_l near.1),
    )))
    (any_none (λ (p : Bytes × Bytes). is_astray (leaves_set blocks) leaf p.0) leaf.pairs good.near)

first_low : (leaf : Leaf) → leaf.page ≡ 1 → has_wrong_low leaf ≡ false → leaf.low ≡ []
first_low leaf one e =
    let page : (leaf.page == 1) ≡ true = eq-eqb leaf.page 1 one in
    let low : not (is_same leaf.low []) ≡ false =
    (let f : (if leaf.page == 1 then not (is_same leaf.low []) else is_same leaf.low [])
    ≡ (if true then not (is_same leaf.low []) else is_same leaf.low []) =
    ap (λ (t : Bool). if t then not (is_same leaf.low []) else is_same leaf.low []) page in sym f ∙ e) in
    (bytes_decides leaf.low []).0 (not_not (is_same leaf.low []) (λ n. true≢false (sym n ∙ low)))

begins : (m : ℕ) (blocks : List Block) (n : ℕ) → AllByRecursion (IsBlock m) blocks → NoneAtFault m blocks (suc n) → AreSet blocks 1 (suc n)
    → BeginsEmpty (contents blocks 1 (suc n))
begins m blocks n laws none set =
    let here = set 1 (omega arith) (omega arith) in
    let good = all_good m blocks (suc n) 1 here.0 none (omega arith) (omega arith) here.1 in
    subst BeginsEmpty (sym (contents_by blocks 1 n (Some here.0) here.1)) (first_low here.0 (content_shaped m 1 blocks here.0 laws here.1).page good.low)

pub leaves_lawful : (m : ℕ) (blocks : List Block) (n : ℕ) → suc n < 2 ^ 32 → AllByRecursion (IsBlock m) blocks → NoneAtFault m blocks (suc n)
    → AreLeaves m (contents blocks 1 (suc n))
leaves_lawful m blocks n small laws none =
    let set = all_set m blocks (suc n) none in
    ranges_homes m (contents blocks 1 (suc n)) (record {
      pages = contents_numbered m blocks 1 (suc n) laws set;
      first = begins m blocks n laws none set;
      lows = contents_all blocks (λ a. AllByRecursion (λ b. a.low ≡ b.low → a.page ≡ b.page) (contents blocks 1 (suc n))) 1 (suc n) set
          (λ i a from_i to_i is_a. contents_all blocks (λ b. a.low ≡ b.low → a.page ≡ b.page) 1 (suc n) set
          (λ k b from to is_b. own_lows m blocks (suc n) i k a b none from_i to_i from to is_a is_b));
      each = contents_all blocks (IsBase m) 1 (suc n) set
          (λ k leaf from to is. shaped_base m k leaf (content_shaped m k blocks leaf laws is) (from, omega arith)
          (all_good m blocks (suc n) k leaf none from to is).few);
      ranges = contents_all blocks (λ l. AllByRecursion (λ p. LiesBetween (contents blocks 1 (suc n)) l p.0) l.pairs) 1 (suc n) set
          (λ k leaf from to is. between m blocks (suc n) k leaf none set from to is);
    })
