-- One block more is read into the pages.

use Rattle.std.proofs.Common.{◌≡◌, ℕ, ◌==◌, Bool, true, false, if◌then◌else◌, nat_eq, eq-eqb, eqb-true, Option, Some, None, Result, Ok, Err, OnOk, ◌⊎◌, inl, inr, List, [], ◌∷◌, ◌++◌, ◌+◌, length, add-one, refl, sym, ap, subst, ◌∙◌}
use Rattle.std.specs.Option.{option_map}
use Rattle.std.specs.BTreeMap as tree
use Rattle.std.specs.Ordering.{nat_cmp}
use Rattle.std.proofs.lemmas.Grind.{fold-append}
use Rattle.std.proofs.lemmas.List.{append-nil}
use Rattle.bw_record.specs.declared.record.Record.{Record}
use Rattle.bw_record.specs.declared.leaf.Leaf.{Leaf}
use Rattle.bw_record.specs.declared.block.Block.{Block}
use Rattle.bw_record.specs.declared.block.Block.TheVariants.{Delta, Base, Split}
use Rattle.bw_record.specs.declared.block.Place.{Place}
use Rattle.bw_leaf.specs.Changed.{all_changed}
use Rattle.bw_leaf.specs.Forwards.{after, kept_below, content}
use Rattle.bw_rescue.specs.declared.pages.Line.{Line}
use Rattle.bw_rescue.specs.declared.pages.Change.{Change}
use Rattle.bw_rescue.specs.Pages.{change_of, IsChanged, IsPageOf, AreRead}

pub on_ok : {A E : Type 0} (r : Result A E) (X Y : Type 0) → (X → Y) → OnOk r X → OnOk r Y
on_ok (Ok a) X Y f x = f x
on_ok (Err e) X Y f x = x

pub all_ok : {A E : Type 0} (r : Result A E) (X : ℕ → Type 0) → ((p : ℕ) → OnOk r (X p)) → OnOk r ((p : ℕ) → X p)
all_ok (Ok a) X f = f
all_ok (Err e) X f = f 0

-- ---- a map with a line more

pub put_here : (page : ℕ) (line : Line) (other : Option Line) → (if nat_eq page page then Some line else other) ≡ Some line
put_here page line other = ap (λ (b : Bool). if b then Some line else other) (eq-eqb page page refl)

pub put_beside : (page p : ℕ) (line other : Option Line) → nat_eq page p ≡ false → (if nat_eq page p then line else other) ≡ other
put_beside page p line other is = ap (λ (b : Bool). if b then line else other) is

-- ---- one page after a block

pub content_more : (p : ℕ) (done : List Block) (b : Block) → content p (done ++ b ∷ []) ≡ after p (content p done) b
content_more p done b = fold-append (after p) None done (b ∷ [])

-- a change of this page
changed_page : (done : List Block) (p : ℕ) (c : Change) (old new : Option Line) → IsPageOf done p old → IsChanged c old new
    → (b : Block) → after p (content p done) b ≡ option_map (change_of c) (content p done) → IsPageOf (done ++ b ∷ []) p new
changed_page done p c None new is step b by =
    subst (λ (o : Option Line). IsPageOf (done ++ b ∷ []) p o) (sym step) (content_more p done b ∙ by ∙ ap (option_map (change_of c)) is)
changed_page done p c (Some line) None is step b by = absurd step
changed_page done p c (Some line) (Some new) is step b by = λ whole.
    let both = step whole in
    content_more p done b ∙ by ∙ ap (option_map (change_of c)) (is both.0) ∙ ap (λ (l : Leaf). Some l) (sym both.1)

-- a block that does not touch the page
same_page : (done : List Block) (p : ℕ) (old new : Option Line) → IsPageOf done p old → new ≡ old → (b : Block) → after p (content p done) b ≡ content p done
    → IsPageOf (done ++ b ∷ []) p new
same_page done p old new is same b by = subst (λ (o : Option Line). IsPageOf (done ++ b ∷ []) p o) (sym same) (kept old is)
  where
    kept : (o : Option Line) → IsPageOf done p o → IsPageOf (done ++ b ∷ []) p o
    kept None none = content_more p done b ∙ by ∙ none
    kept (Some line) whole = λ all. content_more p done b ∙ by ∙ whole all

-- a block that sets the page
set_page : (done : List Block) (p : ℕ) (leaf : Leaf) (place : Place) (new : Option Line) → new ≡ Some (record { draft = leaf; last = place; lost = None })
    → (b : Block) → after p (content p done) b ≡ Some leaf → IsPageOf (done ++ b ∷ []) p new
set_page done p leaf place new is b by = subst (λ (o : Option Line). IsPageOf (done ++ b ∷ []) p o) (sym is) (λ whole. content_more p done b ∙ by)

-- ---- a page that is changed

pub changed_put : (c : Change) (page : ℕ) (old new other : Option Line) (line n : Line) → old ≡ Some line → IsChanged c (Some line) (Some n)
    → new ≡ (if nat_eq page page then Some n else other) → IsChanged c old new
changed_put c page old new other line n is step put =
    let there : new ≡ Some n = put ∙ put_here page n other in
    subst (λ (o : Option Line). IsChanged c o new) (sym is) (subst (λ (o : Option Line). IsChanged c (Some line) o) (sym there) step)

-- ---- a block that was read

-- whether two pages are one
two : (page p : ℕ) → (page ≡ p) ⊎ (nat_eq page p ≡ false)
two page p = by (nat_eq page p) refl
  where
    by : (b : Bool) → nat_eq page p ≡ b → (page ≡ p) ⊎ (nat_eq page p ≡ false)
    by true is = inl (eqb-true page p is)
    by false is = inr is

if_so : {A : Type 0} (page p : ℕ) (x y : A) → page ≡ p → (if page == p then x else y) ≡ x
if_so page p x y is = ap (λ (b : Bool). if b then x else y) (eq-eqb page p is)

if_not : {A : Type 0} (page p : ℕ) (x y : A) → nat_eq page p ≡ false → (if page == p then x else y) ≡ y
if_not page p x y is = ap (λ (b : Bool). if b then x else y) is

pub base_read : (done : List Block) (leaf : Leaf) (place : Place) (old new : tree.BTreeMap ℕ Line) → AreRead done old
    → ((p : ℕ) → tree.get nat_cmp new p ≡ (if nat_eq leaf.page p then Some (record { draft = leaf; last = place; lost = None }) else tree.get nat_cmp old p))
    → AreRead (done ++ Base leaf ∷ []) new
base_read done leaf place old new read put p = by (two leaf.page p)
  where
    by : (leaf.page ≡ p) ⊎ (nat_eq leaf.page p ≡ false) → IsPageOf (done ++ Base leaf ∷ []) p (tree.get nat_cmp new p)
    by (inl is) = set_page done p leaf place (tree.get nat_cmp new p)
        (put p ∙ if_so leaf.page p (Some (record { draft = leaf; last = place; lost = None })) (tree.get nat_cmp old p) is) (Base leaf) (if_so leaf.page p (Some leaf) (content p done) is)
    by (inr isnt) = same_page done p (tree.get nat_cmp old p) (tree.get nat_cmp new p) (read p)
        (put p ∙ if_not leaf.page p (Some (record { draft = leaf; last = place; lost = None })) (tree.get nat_cmp old p) isnt) (Base leaf) (if_not leaf.page p (Some leaf) (content p done) isnt)

pub delta_read : (done : List Block) (page : ℕ) (back : Place) (ops : List Record) (c : Change) (old new : tree.BTreeMap ℕ Line) → AreRead done old
    → ((leaf : Leaf) → change_of c leaf ≡ all_changed ops leaf)
    → IsChanged c (tree.get nat_cmp old page) (tree.get nat_cmp new page)
    → ((p : ℕ) → nat_eq page p ≡ false → tree.get nat_cmp new p ≡ tree.get nat_cmp old p)
    → AreRead (done ++ Delta page back ops ∷ []) new
delta_read done page back ops c old new read is step others p = by (two page p)
  where
    mapped : (o : Option Leaf) → option_map (all_changed ops) o ≡ option_map (change_of c) o
    mapped None = refl
    mapped (Some leaf) = ap (λ (l : Leaf). Some l) (sym (is leaf))

    by : (page ≡ p) ⊎ (nat_eq page p ≡ false) → IsPageOf (done ++ Delta page back ops ∷ []) p (tree.get nat_cmp new p)
    by (inl same) = changed_page done p c (tree.get nat_cmp old p) (tree.get nat_cmp new p) (read p)
        (subst (λ (q : ℕ). IsChanged c (tree.get nat_cmp old q) (tree.get nat_cmp new q)) same step) (Delta page back ops)
        (if_so page p (option_map (all_changed ops) (content p done)) (content p done) same ∙ mapped (content p done))
    by (inr isnt) = same_page done p (tree.get nat_cmp old p) (tree.get nat_cmp new p) (read p) (others p isnt) (Delta page back ops)
        (if_not page p (option_map (all_changed ops) (content p done)) (content p done) isnt)

pub split_read : (done : List Block) (page : ℕ) (back : Place) (upper : Leaf) (place : Place) (c : Change) (old mid new : tree.BTreeMap ℕ Line) → AreRead done old
    → ((leaf : Leaf) → change_of c leaf ≡ kept_below upper.low leaf)
    → IsChanged c (tree.get nat_cmp old page) (tree.get nat_cmp mid page)
    → ((p : ℕ) → nat_eq page p ≡ false → tree.get nat_cmp mid p ≡ tree.get nat_cmp old p)
    → ((p : ℕ) → tree.get nat_cmp new p ≡ (if nat_eq upper.page p then Some (record { draft = upper; last = place; lost = None }) else tree.get nat_cmp mid p))
    → AreRead (done ++ Split page back upper ∷ []) new
split_read done page back upper place c old mid new read is step others put p = by (two upper.page p)
  where
    mapped : (o : Option Leaf) → option_map (kept_below upper.low) o ≡ option_map (change_of c) o
    mapped None = refl
    mapped (Some leaf) = ap (λ (l : Leaf). Some l) (sym (is leaf))

    lower : nat_eq upper.page p ≡ false → (page ≡ p) ⊎ (nat_eq page p ≡ false) → IsPageOf (done ++ Split page back upper ∷ []) p (tree.get nat_cmp mid p)
    lower above (inl same) = changed_page done p c (tree.get nat_cmp old p) (tree.get nat_cmp mid p) (read p)
        (subst (λ (q : ℕ). IsChanged c (tree.get nat_cmp old q) (tree.get nat_cmp mid q)) same step) (Split page back upper)
        (if_not upper.page p (Some upper) (if page == p then option_map (kept_below upper.low) (content p done) else content p done) above
        ∙ if_so page p (option_map (kept_below upper.low) (content p done)) (content p done) same ∙ mapped (content p done))
    lower above (inr isnt) = same_page done p (tree.get nat_cmp old p) (tree.get nat_cmp mid p) (read p) (others p isnt) (Split page back upper)
        (if_not upper.page p (Some upper) (if page == p then option_map (kept_below upper.low) (content p done) else content p done) above
        ∙ if_not page p (option_map (kept_below upper.low) (content p done)) (content p done) isnt)

    by : (upper.page ≡ p) ⊎ (nat_eq upper.page p ≡ false) → IsPageOf (done ++ Split page back upper ∷ []) p (tree.get nat_cmp new p)
    by (inl same) = set_page done p upper place (tree.get nat_cmp new p)
        (put p ∙ if_so upper.page p (Some (record { draft = upper; last = place; lost = None })) (tree.get nat_cmp mid p) same) (Split page back upper)
        (if_so upper.page p (Some upper) (if page == p then option_map (kept_below upper.low) (content p done) else content p done) same)
    by (inr isnt) = subst (λ (o : Option Line). IsPageOf (done ++ Split page back upper ∷ []) p o)
        (sym (put p ∙ if_not upper.page p (Some (record { draft = upper; last = place; lost = None })) (tree.get nat_cmp mid p) isnt)) (lower isnt (two page p))

-- ---- the blocks of a frame

length_none : (xs : List Block) → length xs ≡ 0 → xs ≡ []
length_none [] none = refl
length_none (x ∷ xs) none = cc

pub one_less : (b : Block) (xs ys : List Block) → ys ≡ b ∷ xs → length ys ≡ length xs + 1
one_less b xs ys is = ap length is ∙ sym (add-one (length xs))

pub all_read : (all done rest : List Block) (n : ℕ) → done ++ rest ≡ all → length rest ≡ n → n ≡ 0 → done ≡ all
all_read all done rest n is long none = sym (append-nil done) ∙ (subst (λ (l : List Block). done ++ l ≡ all) (length_none rest (long ∙ none)) is)
