-- Lines in the order of their pages are the pages of the blocks that were read.

use Rattle.std.proofs.Common.{inl, inr, ◌≡◌, ℕ, zero, suc, ◌+◌, ◌<◌, ◌≤◌, ◌==◌, ◌&&◌, ◌||◌, not, Bool, true, false, if◌then◌else◌, cond, max}
use Rattle.std.proofs.Common.{Option, Some, None, IsSome, List, [], ◌∷◌, ◌++◌, map, length, slice_get, refl, sym, ap, ◌∙◌, subst, arith}
use Rattle.std.specs.List.{list_any, AllByRecursion}
use Rattle.std.specs.List.Sorted.{IsStrictlySortedBy}
use Rattle.std.specs.Option.{option_map}
use Rattle.std.specs.Ordering.{is_eq, nat_cmp}
use Rattle.std.specs.declared.cmp.Ordering.{Ordering}
use Rattle.std.specs.declared.cmp.Ordering.TheVariants.{Less, Equal, Greater}
use Rattle.std.specs.BTreeMap as tree
use Rattle.std.specs.Map.{lookup}
use Rattle.std.proofs.lemmas.Cmp.{ranked}
use Rattle.std.proofs.lemmas.Bool.{eqb-true, eq-eqb, true≢false, cases_lt}
use lib.Pointwise.{bytes_decides}
use Rattle.bw_record.specs.Touch.{touches}
use Rattle.bw_record.specs.declared.leaf.Leaf.{Leaf}
use Rattle.bw_record.specs.declared.block.Block.{Block}
use Rattle.bw_record.specs.declared.block.Block.TheVariants.{Delta, Base, Split}
use Rattle.bw_record.specs.declared.block.Place.{Place}
use Rattle.bw_record.specs.declared.block.Frame.{Frame}
use Rattle.bw_record.proofs.Order.{must_not}
use Rattle.bw_buffer.specs.Marks.{mark_of}
use Rattle.bw_leaf.specs.Changed.{Bytes}
use Rattle.bw_leaf.specs.Forwards.{content, blocks_of}
use Rattle.bw_log.specs.PageTable.{top_of, top_page}
use Rattle.bw_log.specs.Places.{all_placed}
use Rattle.bw_lines.specs.Lawful.{as_list, leaves_set, is_bad_page, is_at_fault, first_such, contents}
use Rattle.bw_lines.specs.Paging.{Paged, Rise, has_low, first_with, first_wrong, leaves_in, last_page, line_at, AreOf, IsMapOf}
use Rattle.bw_lines.specs.Reading.{leaf_in, line_after, line_of}
use Rattle.bw_lines.specs.declared.links.Line.{Line}
use Rattle.bw_lines.proofs.LinesTaken.{leaf_is, blocks_all}
use Rattle.bw_lines.proofs.FoundStand.{all_untouched}

-- ---- a list of lines, looked at by page

eq_by : (p k : ℕ) (r : Ordering) → r ≡ nat_cmp p k → is_eq r ≡ (p == k)
eq_by p k Less is = (let less : p < k = ranked p k Less is in sym (must_not (p == k) (λ e. (let same = eqb-true p k e in omega arith))))
eq_by p k Equal is = (let same : p ≡ k = ranked p k Equal is in sym (eq-eqb p k same))
eq_by p k Greater is = (let more : k < p = ranked p k Greater is in sym (must_not (p == k) (λ e. (let same = eqb-true p k e in omega arith))))

found_by : (p : ℕ) (e : Paged) (t u : Bool) (o q : Option Line) → t ≡ u → o ≡ q → cond t (Some e.1) o ≡ (if u then Some e.1 else q)
found_by p e true u o q is same = rw (sym is) refl
found_by p e false u o q is same = rw (sym is) same

pub line_is : (p : ℕ) (es : List Paged) → lookup (tree.is_at (nat_cmp p)) es ≡ line_at p es
line_is p [] = refl
line_is p (e ∷ es) = found_by p e (is_eq (nat_cmp p e.0)) (p == e.0) (lookup (tree.is_at (nat_cmp p)) es) (line_at p es)
    (eq_by p e.0 (nat_cmp p e.0) refl) (line_is p es)

-- ---- page numbers rise

pub all_less : (n : ℕ) (es : List Paged) → AllByRecursion (λ y. nat_cmp n y ≡ Less) (map (λ e. e.0) es) → AllByRecursion (λ e. n < e.0) es
all_less n [] all = tt
all_less n (e ∷ es) all = (ranked n e.0 Less (sym all.0), all_less n es all.1)

pub rise_by : (n : ℕ) (es : List Paged) → AllByRecursion (λ e. n < e.0) es → IsStrictlySortedBy nat_cmp (map (λ e. e.0) es) → Rise n es
unfolding IsStrictlySortedBy
rise_by n [] all sorted = tt
rise_by n (e ∷ es) all sorted = (all.0, rise_by e.0 es (all_less e.0 es sorted.0) sorted.1)

pub rises : (es : List Paged) → AllByRecursion (λ e. 0 < e.0) es → IsStrictlySortedBy nat_cmp (map (λ e. e.0) es) → Rise 0 es
rises es all sorted = rise_by 0 es all sorted

last_from : (n : ℕ) (es : List Paged) → Rise n es → n ≤ last_page n es
last_from n [] rise = omega arith
last_from n (e ∷ es) rise = let more = last_from e.0 es rise.1 in let here = rise.0 in omega arith

none_under : (p n : ℕ) (es : List Paged) → Rise n es → p ≤ n → line_at p es ≡ None
none_under p n [] rise under = refl
none_under p n (e ∷ es) rise under =
    let off : (p == e.0) ≡ false = must_not (p == e.0) (λ s. (let same = eqb-true p e.0 s in let less = rise.0 in omega arith)) in
    let less : n < e.0 = rise.0 in
    rw off (none_under p e.0 es rise.1 (omega arith))

none_over : (p n : ℕ) (es : List Paged) → Rise n es → last_page n es < p → line_at p es ≡ None
none_over p n [] rise over = refl
none_over p n (e ∷ es) rise over =
    let last = last_from e.0 es rise.1 in
    let off : (p == e.0) ≡ false = must_not (p == e.0) (λ s. (let same = eqb-true p e.0 s in omega arith)) in
    rw off (none_over p e.0 es rise.1 over)

pub here_is : (p : ℕ) (e : Paged) (es : List Paged) → p ≡ e.0 → line_at p (e ∷ es) ≡ Some e.1
here_is p e es same = (let on : (p == e.0) ≡ true = eq-eqb p e.0 same in rw on refl)

behind_is : (p : ℕ) (e : Paged) (es : List Paged) → e.0 < p → line_at p (e ∷ es) ≡ line_at p es
behind_is p e es more = (let off : (p == e.0) ≡ false = must_not (p == e.0) (λ s. (let same = eqb-true p e.0 s in omega arith)) in rw off refl)

-- ---- the first page at fault

-- above a number, the lines are what the blocks say
abbrev pub AreFrom : ℕ → List Block → List Paged → Type 0
AreFrom n blocks es = (p : ℕ) → n < p → leaf_in (line_at p es) ≡ content p blocks

pub from_next : (n : ℕ) (blocks : List Block) (e : Paged) (es : List Paged) → n < e.0 → AreFrom n blocks (e ∷ es) → AreFrom e.0 blocks es
from_next n blocks e es less from p more = ap leaf_in (sym (behind_is p e es more)) ∙ from p (omega arith)

first_by : (test : ℕ → Bool) (p k : ℕ) (t : Bool) → test p ≡ t → first_such test p (suc k) ≡ (if t then Some p else first_such test (p + 1) k)
unfolding first_such
first_by test p k t is = rw (is, first_such) refl

here_fault : (m n : ℕ) (blocks : List Block) (e : Paged) (es : List Paged) → n + 1 ≡ e.0 → AreFrom n blocks (e ∷ es)
    → is_at_fault m blocks (n + 1) ≡ is_bad_page m (leaves_set blocks) e.1.leaf
here_fault m n blocks e es same from = ap (is_bad_page m (leaves_set blocks)) (sym (from (n + 1) (omega arith)) ∙ ap leaf_in (here_is (n + 1) e es same))

gap_fault : (m n : ℕ) (blocks : List Block) (e : Paged) (es : List Paged) → Rise e.0 es → n + 1 < e.0 → AreFrom n blocks (e ∷ es)
    → is_at_fault m blocks (n + 1) ≡ true
gap_fault m n blocks e es rise less from =
    let off : (n + 1 == e.0) ≡ false = must_not (n + 1 == e.0) (λ s. (let same = eqb-true (n + 1) e.0 s in omega arith)) in
    let none : line_at (n + 1) (e ∷ es) ≡ None = rw off (none_under (n + 1) e.0 es rise (omega arith)) in
    ap (is_bad_page m (leaves_set blocks)) (sym (from (n + 1) (omega arith)) ∙ ap leaf_in none)

number_by : (m n : ℕ) (blocks : List Block) (e : Paged) (es : List Paged) (k : ℕ) (t b : Bool) → (n + 1 == e.0) ≡ t
    → is_bad_page m (leaves_set blocks) e.1.leaf ≡ b → Rise n (e ∷ es) → AreFrom n blocks (e ∷ es)
    → (n + 1 ≡ e.0 → first_wrong m (leaves_set blocks) e.0 es ≡ first_such (is_at_fault m blocks) (e.0 + 1) k)
    → first_wrong m (leaves_set blocks) n (e ∷ es) ≡ first_such (is_at_fault m blocks) (n + 1) (suc k)
number_by m n blocks e es k true true is_t is_b rise from others =
    rw (is_t, is_b) (sym (first_by (is_at_fault m blocks) (n + 1) k true (here_fault m n blocks e es (eqb-true (n + 1) e.0 is_t) from ∙ is_b)))
number_by m n blocks e es k true false is_t is_b rise from others =
    let same : e.0 ≡ n + 1 = sym (eqb-true (n + 1) e.0 is_t) in
    rw (is_t, is_b) (others (sym same)
    ∙ ap (λ (i : ℕ). first_such (is_at_fault m blocks) (i + 1) k) same
    ∙ sym (first_by (is_at_fault m blocks) (n + 1) k false (here_fault m n blocks e es (sym same) from ∙ is_b)))
number_by m n blocks e es k false b is_t is_b rise from others =
    let other : n + 1 < e.0 = (let less = rise.0
    in elim (cases_lt (n + 1) e.0) [
      | inl l ↦ l
      | inr g ↦
          (let same : n + 1 ≡ e.0 = omega arith in absurd (true≢false (sym (eq-eqb (n + 1) e.0 same) ∙ is_t)))
    ]) in
    rw is_t (sym (first_by (is_at_fault m blocks) (n + 1) k true (gap_fault m n blocks e es rise.1 other from)))

pub wrong_is : (m n : ℕ) (blocks : List Block) (es : List Paged) (k : ℕ) → Rise n es → AreFrom n blocks es → n + k ≡ last_page n es
    → first_wrong m (leaves_set blocks) n es ≡ first_such (is_at_fault m blocks) (n + 1) k
unfolding first_such
wrong_is m n blocks [] zero rise from last = refl
wrong_is m n blocks [] (suc k) rise from last = absurd (omega arith)
wrong_is m n blocks (e ∷ es) zero rise from last = (let more = last_from e.0 es rise.1 in let less = rise.0 in absurd (omega arith))
wrong_is m n blocks (e ∷ es) (suc k) rise from last =
    number_by m n blocks e es k (n + 1 == e.0) (is_bad_page m (leaves_set blocks) e.1.leaf) refl refl rise from
    (λ same. wrong_is m e.0 blocks es k rise.1 (from_next n blocks e es rise.0 from) (omega arith))

-- ---- where none is

pub record IsRow (m : ℕ) (set : List Leaf) (n : ℕ) (e : Paged) (es : List Paged) : Type 0 where
  pub number : e.0 ≡ n + 1
  pub good : is_bad_page m set e.1.leaf ≡ false
  pub rest : first_wrong m set e.0 es ≡ None

row_by : (m : ℕ) (set : List Leaf) (n : ℕ) (e : Paged) (es : List Paged) (t b : Bool) → (n + 1 == e.0) ≡ t → is_bad_page m set e.1.leaf ≡ b
    → (if t && not b then first_wrong m set e.0 es else Some (n + 1)) ≡ None → IsRow m set n e es
row_by m set n e es true true is_t is_b none = absurd cc
row_by m set n e es true false is_t is_b none = record { number = sym (eqb-true (n + 1) e.0 is_t); good = is_b; rest = none }
row_by m set n e es false b is_t is_b none = absurd cc

pub row : (m : ℕ) (set : List Leaf) (n : ℕ) (e : Paged) (es : List Paged) → first_wrong m set n (e ∷ es) ≡ None → IsRow m set n e es
row m set n e es none = row_by m set n e es (n + 1 == e.0) (is_bad_page m set e.1.leaf) refl refl none

-- the leaf of a page that is not at fault
leaf_here : (m : ℕ) (set : List Leaf) (o : Option Leaf) → is_bad_page m set o ≡ false → (l : Leaf) × (o ≡ Some l)
leaf_here m set None e = absurd cc
leaf_here m set (Some l) e = (l, refl)

contents_by : (blocks : List Block) (p n : ℕ) (o : Option Leaf) → content p blocks ≡ o → contents blocks p (suc n) ≡ as_list o ++ contents blocks (p + 1) n
unfolding contents
contents_by blocks p n None is = rw (is, contents) refl
contents_by blocks p n (Some leaf) is = rw (is, contents) refl

pub leaves_are : (m n : ℕ) (blocks : List Block) (set : List Leaf) (es : List Paged) (k : ℕ) → Rise n es → AreFrom n blocks es → n + k ≡ last_page n es
    → first_wrong m set n es ≡ None → leaves_in es ≡ contents blocks (n + 1) k
unfolding contents
leaves_are m n blocks set [] zero rise from last none = refl
leaves_are m n blocks set [] (suc k) rise from last none = absurd (omega arith)
leaves_are m n blocks set (e ∷ es) zero rise from last none = (let more = last_from e.0 es rise.1 in let less = rise.0 in absurd (omega arith))
leaves_are m n blocks set (e ∷ es) (suc k) rise from last none =
    let r = row m set n e es none in
    let number : e.0 ≡ n + 1 = r.number in
    let leaf : content (n + 1) blocks ≡ e.1.leaf = sym (from (n + 1) (omega arith)) ∙ ap leaf_in (here_is (n + 1) e es (sym number)) in
    ap (λ (l : List Leaf). as_list e.1.leaf ++ l)
    (leaves_are m e.0 blocks set es k rise.1 (from_next n blocks e es rise.0 from) (omega arith) r.rest ∙ ap (λ (i : ℕ). contents blocks (i + 1) k) number)
    ∙ sym (contents_by blocks (n + 1) k e.1.leaf leaf)

-- pages stand one after the other, from 1
pub stands_here : (m n : ℕ) (set : List Leaf) (es : List Paged) (i : ℕ) → Rise n es → first_wrong m set n es ≡ None
    → option_map (λ e. e.1) (slice_get es i) ≡ line_at (n + 1 + i) es
stands_here m n set [] i rise none = refl
stands_here m n set (e ∷ es) zero rise none =
    (let r = row m set n e es none in let same : n + 1 + 0 ≡ e.0 = (let number = r.number in omega arith) in sym (here_is (n + 1 + 0) e es same))
stands_here m n set (e ∷ es) (suc i) rise none =
    let r = row m set n e es none in
    let number = r.number in
    let more : e.0 < n + 1 + suc i = omega arith in
    let same : e.0 + 1 + i ≡ n + 1 + suc i = omega arith in
    stands_here m e.0 set es i rise.1 r.rest ∙ ap (λ (p : ℕ). line_at p es) same ∙ sym (behind_is (n + 1 + suc i) e es more)

pub leaves_count : (m n : ℕ) (set : List Leaf) (es : List Paged) → first_wrong m set n es ≡ None → length (leaves_in es) ≡ length es
leaves_count m n set [] none = refl
leaves_count m n set (e ∷ es) none =
    let r = row m set n e es none in
    let l = leaf_here m set e.1.leaf r.good in
    ap (λ (o : Option Leaf). length (as_list o ++ leaves_in es)) l.1 ∙ ap suc (leaves_count m e.0 set es r.rest)

-- ---- the last page

touched_by : (p : ℕ) (was : Option Line) (x : Place × Block) (t : Bool) → touches p x.1 ≡ t → IsSome was → IsSome (line_after p was x)
touched_by p was x true e some = rw e refl
touched_by p was x false e some = rw e some

kept_some : (p : ℕ) (was : Option Line) (xs : List (Place × Block)) → IsSome was → IsSome (line_of p was xs)
kept_some p was [] some = some
kept_some p was (x ∷ xs) some = kept_some p (line_after p was x) xs (touched_by p was x (touches p x.1) refl some)

some_by : (p : ℕ) (was : Option Line) (x : Place × Block) (xs : List (Place × Block)) (t : Bool) → touches p x.1 ≡ t
    → (t || list_any (touches p) (map (λ y. y.1) xs)) ≡ true
    → ((w : Option Line) → list_any (touches p) (map (λ y. y.1) xs) ≡ true → IsSome (line_of p w xs)) → IsSome (line_of p was (x ∷ xs))
some_by p was x xs true e any others = kept_some p (line_after p was x) xs (rw e refl)
some_by p was x xs false e any others = others (line_after p was x) any

line_some : (p : ℕ) (was : Option Line) (xs : List (Place × Block)) → list_any (touches p) (map (λ x. x.1) xs) ≡ true → IsSome (line_of p was xs)
line_some p was [] any = absurd cc
line_some p was (x ∷ xs) any = some_by p was x xs (touches p x.1) refl any (λ w e. line_some p w xs e)

none_by : (p : ℕ) (was : Option Line) (x : Place × Block) (t : Bool) → touches p x.1 ≡ t → t ≡ false → was ≡ None → line_after p was x ≡ None
none_by p was x true e off none = absurd cc
none_by p was x false e off none = rw e none

pub line_none : (p : ℕ) (was : Option Line) (xs : List (Place × Block)) → AllByRecursion (λ b. touches p b ≡ false) (map (λ x. x.1) xs) → was ≡ None
    → line_of p was xs ≡ None
line_none p was [] all none = none
line_none p was (x ∷ xs) all none = line_none p (line_after p was x) xs all.1 (none_by p was x (touches p x.1) refl all.0 none)

any_right : (a b : Bool) → b ≡ true → (a || b) ≡ true
any_right true b e = refl
any_right false b e = e

any_left : (a b : Bool) → a ≡ true → (a || b) ≡ true
any_left true b e = refl
any_left false b e = absurd cc

top_touches : (b : Block) → touches (top_of (mark_of b)) b ≡ true
top_touches (Delta page back ops) = eq-eqb page page refl
top_touches (Base leaf) = eq-eqb leaf.page leaf.page refl
top_touches (Split page back upper) =
    elim (cases_lt page upper.page) [
      | inl less ↦ (let same : upper.page ≡ max page upper.page = omega arith
          in any_right (page == max page upper.page) (upper.page == max page upper.page) (eq-eqb upper.page (max page upper.page) same))
      | inr more ↦ (let same : page ≡ max page upper.page = omega arith
          in any_left (page == max page upper.page) (upper.page == max page upper.page) (eq-eqb page (max page upper.page) same))
    ]

top_touched : (bs : List Block) → 1 ≤ top_page bs → list_any (touches (top_page bs)) bs ≡ true
top_touched [] some = absurd (omega arith)
top_touched (b ∷ bs) some =
    elim (cases_lt (top_of (mark_of b)) (top_page bs)) [
      | inl less ↦ (let same : top_page bs ≡ max (top_of (mark_of b)) (top_page bs) = omega arith in let from : 1 ≤ top_page bs = omega arith in
          any_right (touches (max (top_of (mark_of b)) (top_page bs)) b) (list_any (touches (max (top_of (mark_of b)) (top_page bs))) bs)
          (subst (λ (p : ℕ). list_any (touches p) bs ≡ true) same (top_touched bs from)))
      | inr more ↦ (let same : top_of (mark_of b) ≡ max (top_of (mark_of b)) (top_page bs) = omega arith in
          any_left (touches (max (top_of (mark_of b)) (top_page bs)) b) (list_any (touches (max (top_of (mark_of b)) (top_page bs))) bs)
          (subst (λ (p : ℕ). touches p b ≡ true) same (top_touches b)))
    ]

nothing : {X : Type 0} (o : Option Line) → IsSome o → o ≡ None → X
nothing None some none = absurd cc
nothing (Some l) some none = absurd cc

key_there : (n : ℕ) (es : List Paged) → Rise n es → n < last_page n es → IsSome (line_at (last_page n es) es)
key_there n [] rise less = absurd (omega arith)
key_there n (e ∷ []) rise less = subst (λ (o : Option Line). IsSome o) (sym (here_is e.0 e [] refl)) refl
key_there n (e ∷ d ∷ es) rise less =
    let more = last_from d.0 es rise.1.1 in
    let over : e.0 < last_page d.0 es = (let two = rise.1.0 in omega arith) in
    subst (λ (o : Option Line). IsSome o) (sym (behind_is (last_page d.0 es) e (d ∷ es) over)) (key_there e.0 (d ∷ es) rise.1 over)

pub last_is : (frames : List Frame) (es : List Paged) → Rise 0 es → AreOf frames es → 0 + top_page (blocks_of frames) ≡ last_page 0 es
last_is frames es rise of =
    elim (cases_lt (last_page 0 es) (top_page (blocks_of frames))) [
      | inl less ↦ (
          let any = top_touched (blocks_of frames) (omega arith) in
          let some = line_some (top_page (blocks_of frames)) None (all_placed frames)
          (subst (λ (bs : List Block). list_any (touches (top_page (blocks_of frames))) bs ≡ true) (sym (blocks_all frames)) any) in
          nothing (line_of (top_page (blocks_of frames)) None (all_placed frames)) some
          (sym (of (top_page (blocks_of frames))) ∙ none_over (top_page (blocks_of frames)) 0 es rise less))
      | inr more ↦ elim (cases_lt (top_page (blocks_of frames)) (last_page 0 es)) [
        | inl over ↦ (
            let none = line_none (last_page 0 es) None (all_placed frames)
            (subst (λ (bs : List Block). AllByRecursion (λ b. touches (last_page 0 es) b ≡ false) bs) (sym (blocks_all frames))
            (all_untouched (last_page 0 es) (blocks_of frames) over)) refl in
            nothing (line_at (last_page 0 es) es) (key_there 0 es rise (omega arith)) (of (last_page 0 es) ∙ none))
        | inr equal ↦ omega arith
      ]
    ]

pub from_of : (frames : List Frame) (es : List Paged) → AreOf frames es → AreFrom 0 (blocks_of frames) es
from_of frames es of p over = ap leaf_in (of p) ∙ leaf_is p frames

-- ---- the index

leaf_low : (k : Bytes) (o : Option Leaf) → has_low k o ≡ true → (l : Leaf) × (o ≡ Some l) × (l.low ≡ k)
leaf_low k None e = absurd cc
leaf_low k (Some l) e = (l, refl, (bytes_decides l.low k).0 e)

-- the first page with a low is one of them
pub record IsFirst (k : Bytes) (n page : ℕ) (es : List Paged) : Type 0 where
  pub leaf : Leaf
  pub is : leaf_in (line_at page es) ≡ Some leaf
  pub low : leaf.low ≡ k
  pub over : n < page

first_found_by : (k : Bytes) (n page : ℕ) (e : Paged) (es : List Paged) (t : Bool) → has_low k e.1.leaf ≡ t → Rise n (e ∷ es)
    → (if t then Some e.0 else first_with k es) ≡ Some page
    → (first_with k es ≡ Some page → IsFirst k e.0 page es) → IsFirst k n page (e ∷ es)
first_found_by k n page e es true e1 rise is others =
    let same : page ≡ e.0 = cc in
    let l = leaf_low k e.1.leaf e1 in
    record { leaf = l.0; is = ap leaf_in (here_is page e es same) ∙ l.1; low = l.2; over = (let less = rise.0 in omega arith) }
first_found_by k n page e es false e1 rise is others =
    let f = others is in
    record { leaf = f.leaf; is = ap leaf_in (behind_is page e es f.over) ∙ f.is; low = f.low; over = (let less = rise.0 in let more = f.over in omega arith) }

pub first_found : (k : Bytes) (n page : ℕ) (es : List Paged) → Rise n es → first_with k es ≡ Some page → IsFirst k n page es
first_found k n page [] rise is = absurd cc
first_found k n page (e ∷ es) rise is = first_found_by k n page e es (has_low k e.1.leaf) refl rise is (λ more. first_found k e.0 page es rise.1 more)

-- each page with a low is at the first one or after it
pub record IsUpTo (k : Bytes) (p : ℕ) (es : List Paged) : Type 0 where
  pub page : ℕ
  pub first : first_with k es ≡ Some page
  pub under : page ≤ p

low_true : (k : Bytes) (o : Option Leaf) (l : Leaf) → o ≡ Some l → l.low ≡ k → has_low k o ≡ true
low_true k o l is low = ap (has_low k) is ∙ (bytes_decides l.low k).1 low

up_to_by : (k : Bytes) (n p : ℕ) (e : Paged) (es : List Paged) (l : Leaf) (t u : Bool) → (p == e.0) ≡ t → has_low k e.1.leaf ≡ u → Rise n (e ∷ es)
    → leaf_in (if t then Some e.1 else line_at p es) ≡ Some l → l.low ≡ k
    → (leaf_in (line_at p es) ≡ Some l → IsUpTo k p es × (e.0 < p)) → IsUpTo k p (e ∷ es)
up_to_by k n p e es l true true et eu rise is low others = record { page = e.0; first = rw eu refl; under = (let same = eqb-true p e.0 et in omega arith) }
up_to_by k n p e es l true false et eu rise is low others = absurd (true≢false (sym (low_true k e.1.leaf l is low) ∙ eu))
up_to_by k n p e es l false true et eu rise is low others = (let more = (others is).1 in record { page = e.0; first = rw eu refl; under = omega arith })
up_to_by k n p e es l false false et eu rise is low others = (let f = (others is).0 in record { page = f.page; first = rw eu f.first; under = f.under })

leaf_over : (p n : ℕ) (es : List Paged) (l : Leaf) → Rise n es → leaf_in (line_at p es) ≡ Some l → n < p
leaf_over p n es l rise is =
    elim (cases_lt n p) [
      | inl less ↦ less
      | inr more ↦ (let none = ap leaf_in (none_under p n es rise more) in absurd cc)
    ]

pub up_to : (k : Bytes) (n p : ℕ) (es : List Paged) (l : Leaf) → Rise n es → leaf_in (line_at p es) ≡ Some l → l.low ≡ k → IsUpTo k p es
up_to k n p [] l rise is low = absurd cc
up_to k n p (e ∷ es) l rise is low =
    up_to_by k n p e es l (p == e.0) (has_low k e.1.leaf) refl refl rise is low (λ more. (up_to k e.0 p es l rise.1 more low, leaf_over p e.0 es l rise.1 more))

pub line_untouched : (p : ℕ) (frames : List Frame) → AllByRecursion (λ b. touches p b ≡ false) (blocks_of frames) → line_of p None (all_placed frames) ≡ None
line_untouched p frames all = line_none p None (all_placed frames)
    (subst (λ (bs : List Block). AllByRecursion (λ b. touches p b ≡ false) bs) (sym (blocks_all frames)) all) refl

-- a map's entries are its lines
pub map_of : (frames : List Frame) (lines : tree.BTreeMap ℕ Line) → IsMapOf frames lines → AreOf frames lines.entries
map_of frames lines of p = sym (line_is p lines.entries) ∙ of p
