-- What the lines of a map say of the pages of frames: the first page at fault, the leaves and the table.

use Rattle.std.proofs.Common.{◌≡◌, ℕ, zero, suc, ◌+◌, ◌-◌, ◌<◌, ◌≤◌, ◌==◌, ◌||◌, Bool, true, false, Option}
use Rattle.std.proofs.Common.{Some, None, IsSome, List, [], ◌∷◌, map, length, slice_get, refl, sym, ap, ◌∙◌, subst, arith}
use Rattle.std.specs.List.{list_any, AllByRecursion}
use Rattle.std.specs.List.Sorted.{IsStrictlySortedBy}
use Rattle.std.specs.Option.{option_map}
use Rattle.std.specs.Ordering.{nat_cmp}
use Rattle.std.specs.FinMap as finite
use Rattle.std.proofs.lemmas.Bool.{or_parts, eqb-true}
use Rattle.bw_record.specs.Keys.{IsKey}
use Rattle.bw_codec.specs.Grammar.{IsBlock}
use Rattle.bw_record.specs.Touch.{sets, touches}
use Rattle.bw_record.specs.declared.leaf.Leaf.{Leaf}
use Rattle.bw_record.specs.declared.block.Block.{Block}
use Rattle.bw_record.specs.declared.block.Block.TheVariants.{Delta, Base, Split}
use Rattle.bw_record.specs.declared.block.Place.{Place}
use Rattle.bw_record.specs.declared.block.Frame.{Frame}
use Rattle.bw_record.proofs.Order.{must_be, must_not, not_both}
use Rattle.bw_leaf.specs.Changed.{Bytes}
use Rattle.bw_leaf.specs.Forwards.{content, blocks_of}
use Rattle.bw_log.specs.PageTable.{top_page}
use Rattle.bw_log.specs.Places.{all_placed, place_of, base_of, walk_to}
use Rattle.bw_log.specs.Contents.{IsTable, some_place, entry_place, entry_walk}
use Rattle.bw_log.specs.Contents as log
use Rattle.bw_log.specs.declared.places.PageAt.{PageAt}
use Rattle.bw_lines.specs.Lawful.{HasLawful, leaves_set, is_at_fault, first_such, contents}
use Rattle.bw_lines.specs.Paging.{Paged, Rise, IsIndex, IsLows, IsShortIf, first_wrong, leaves_in, line_at, AreOf, at_line, fault_among}
use Rattle.bw_lines.specs.Paging.{IsRight}
use Rattle.bw_lines.specs.Reading.{place_in, at_in, leaf_in, line_of}
use Rattle.bw_lines.specs.declared.links.Line.{Line}
use Rattle.bw_page.specs.Leaves.{AreLeaves, union}
use Rattle.bw_lines.specs.declared.pages.Pages.{Pages}
use Rattle.bw_lines.proofs.PageShape.{content_shaped}
use Rattle.bw_lines.proofs.PagesAtFault.{in_set}
use Rattle.bw_lines.proofs.LinksRead.{at_place}
use Rattle.bw_lines.proofs.LinesTaken.{all_from, base_is, walk_line, walk_is, place_of_is}
use Rattle.bw_lines.proofs.FoundStand.{blocks_lawful, found_stands}
use Rattle.bw_lines.proofs.StandingAgain.{set_all_by}
use Rattle.bw_lines.proofs.PageLines.{AreFrom, first_found, up_to, from_of, rise_by, all_less, here_is, from_next, line_untouched}
use Rattle.bw_lines.proofs.PageLines.{wrong_is, last_is, leaves_are, leaves_count, stands_here}

-- ---- the index

none_all : {X : Type 0} (test : X → Bool) (xs : List X) → list_any test xs ≡ false → AllByRecursion (λ x. test x ≡ false) xs
none_all test [] e = tt
none_all test (x ∷ xs) e = let two = or_parts (test x) (list_any test xs) e in (two.0, none_all test xs two.1)

set_any : (blocks : List Block) (p : ℕ) (l : Leaf) (test : Leaf → Bool) → content p blocks ≡ Some l → test l ≡ true → list_any test (leaves_set blocks) ≡ true
set_any blocks p l test is e =
    must_be (list_any test (leaves_set blocks))
    (λ off. not_both (test l) e (in_set blocks (λ x. test x ≡ false) p l is (none_all test (leaves_set blocks) off)))

pub lows_are : (m : ℕ) (blocks : List Block) (es : List Paged) (got : Bytes → Option ℕ) → AllByRecursion (IsBlock m) blocks → Rise 0 es → AreFrom 0 blocks es
    → IsIndex es got → IsLows (leaves_set blocks) got
lows_are m blocks es got laws rise from index = record {
  from = set_all_by m blocks (λ l. 1 ≤ l.page) (λ p l one is. (let page = (content_shaped m p blocks l laws is).page in omega arith)) blocks laws;
  short = set_all_by m blocks (λ l. length l.low ≤ 128) (λ p l one is. (content_shaped m p blocks l laws is).low) blocks laws;
  listed = set_all_by m blocks (λ l. IsKey l.low → IsSome (got l.low)) (λ p l one is key. (
      let first = up_to l.low 0 p es l rise (from p (omega arith) ∙ is) refl in
      subst (λ (o : Option ℕ). IsSome o) (sym (index l.low key ∙ first.first)) refl)) blocks laws;
  least = set_all_by m blocks (λ l. IsKey l.low → (page : ℕ) → got l.low ≡ Some page → page ≤ l.page) (λ p l one is key page at. (
      let first = up_to l.low 0 p es l rise (from p (omega arith) ∙ is) refl in
      let number = (content_shaped m p blocks l laws is).page in
      let under = first.under in
      let both : Some first.page ≡ Some page = sym first.first ∙ sym (index l.low key) ∙ at in
      let same : first.page ≡ page = cc in
      omega arith)) blocks laws;
  taken = λ k page key at. (
      let first = first_found k 0 page es rise (sym (index k key) ∙ at) in
      let is = sym (from page first.over) ∙ first.is in
      (first.leaf, first.low, (content_shaped m page blocks first.leaf laws is).page, λ test e. set_any blocks page first.leaf test is e));
}

-- ---- pages from 1 on

no_zero : (m : ℕ) (b : Block) → IsBlock m b → touches 0 b ≡ false
no_zero m (Delta page back ops) law = must_not (page == 0) (λ e. (let zero_is = eqb-true page 0 e in let from = law.changes.0 in omega arith))
no_zero m (Base leaf) law = must_not (leaf.page == 0) (λ e. (let zero_is = eqb-true leaf.page 0 e in let from = law.page.0 in omega arith))
no_zero m (Split page back upper) law = two (page == 0) (upper.page == 0)
    (must_not (page == 0) (λ e. (let zero_is = eqb-true page 0 e in let from = law.splits.0 in omega arith)))
    (must_not (upper.page == 0) (λ e. (let zero_is = eqb-true upper.page 0 e in let from = law.makes.page.0 in omega arith))) where
      two : (a b : Bool) → a ≡ false → b ≡ false → (a || b) ≡ false
      two false false x y = refl
      two true b x y = absurd cc
      two false true x y = absurd cc

none_zero : (m : ℕ) (bs : List Block) → AllByRecursion (IsBlock m) bs → AllByRecursion (λ b. touches 0 b ≡ false) bs
none_zero m [] laws = tt
none_zero m (b ∷ bs) laws = (no_zero m b laws.0, none_zero m bs laws.1)

above_zero : (n : ℕ) → (n ≡ 0 → ⊥) → 0 < n
above_zero zero never = absurd (never refl)
above_zero (suc n) never = omega arith

rise_from : (es : List Paged) → line_at 0 es ≡ None → IsStrictlySortedBy nat_cmp (map (λ e. e.0) es) → Rise 0 es
unfolding IsStrictlySortedBy
rise_from [] none sorted = tt
rise_from (e ∷ es) none sorted =
    (above_zero e.0 (λ z. (let here = here_is 0 e es (sym z) in absurd cc)), rise_by e.0 es (all_less e.0 es sorted.0) sorted.1)

pub rise_is : (m : ℕ) (frames : List Frame) (es : List Paged) → AllByRecursion (HasLawful m) frames → AreOf frames es
    → IsStrictlySortedBy nat_cmp (map (λ e. e.0) es) → Rise 0 es
rise_is m frames es laws of sorted = rise_from es (of 0 ∙ line_untouched 0 frames (none_zero m (blocks_of frames) (blocks_lawful m frames laws))) sorted

-- ---- lows are short

short_by : (o : Option Leaf) (p m : ℕ) (blocks : List Block) → AllByRecursion (IsBlock m) blocks → o ≡ content p blocks → IsShortIf o
short_by None p m blocks laws is = tt
short_by (Some l) p m blocks laws is = (content_shaped m p blocks l laws (sym is)).low

short_from : (m n : ℕ) (blocks : List Block) (es : List Paged) → AllByRecursion (IsBlock m) blocks → Rise n es → AreFrom n blocks es
    → AllByRecursion (λ e. IsShortIf e.1.leaf) es
short_from m n blocks [] laws rise from = tt
short_from m n blocks (e ∷ es) laws rise from = (
  short_by e.1.leaf e.0 m blocks laws (sym (ap leaf_in (here_is e.0 e es refl)) ∙ from e.0 rise.0),
  short_from m e.0 blocks es laws rise.1 (from_next n blocks e es rise.0 from),
)

pub short_all : (m : ℕ) (blocks : List Block) (es : List Paged) → AllByRecursion (IsBlock m) blocks → Rise 0 es → AreFrom 0 blocks es
    → AllByRecursion (λ e. IsShortIf e.1.leaf) es
short_all m blocks es laws rise from = short_from m 0 blocks es laws rise from

-- ---- the page at fault, and the leaves

pub fault_is : (m : ℕ) (frames : List Frame) (es : List Paged) → Rise 0 es → AreOf frames es
    → first_wrong m (leaves_set (blocks_of frames)) 0 es ≡ first_such (is_at_fault m (blocks_of frames)) 1 (top_page (blocks_of frames))
fault_is m frames es rise of = wrong_is m 0 (blocks_of frames) es (top_page (blocks_of frames)) rise (from_of frames es of) (last_is frames es rise of)

pub found_leaves : (m : ℕ) (frames : List Frame) (es : List Paged) → Rise 0 es → AreOf frames es → first_wrong m (leaves_set (blocks_of frames)) 0 es ≡ None
    → leaves_in es ≡ contents (blocks_of frames) 1 (top_page (blocks_of frames))
found_leaves m frames es rise of none = leaves_are m 0 (blocks_of frames) (leaves_set (blocks_of frames)) es (top_page (blocks_of frames)) rise
    (from_of frames es of) (last_is frames es rise of) none

-- ---- the table

place_by : (o : Option Paged) (q : Option Place) → place_in (option_map (λ e. e.1) o) ≡ q
    → ((l : Line) → option_map (λ e. e.1) o ≡ Some l → 1 ≤ l.at.place.frame)
    → entry_place (λ e. e.place) (option_map at_line o) ≡ q
place_by None q is from = is
place_by (Some e) q is from = (let off : (e.1.at.place.frame == 0)
    ≡ false = must_not (e.1.at.place.frame == 0) (λ z. (let zero_is = eqb-true e.1.at.place.frame 0 z in let one = from e.1 refl in omega arith)) in rw off is)

base_by : (o : Option Paged) (q : Option Place) → some_place ((at_in (option_map (λ e. e.1) o)).base) ≡ q → entry_place (λ e. e.base) (option_map at_line o) ≡ q
base_by None q is = is
base_by (Some e) q is = is

walk_by : (o : Option Paged) → entry_walk (option_map at_line o) ≡ walk_line (option_map (λ e. e.1) o)
walk_by None = refl
walk_by (Some e) = refl

map_get : {A B : Type 0} (g : A → B) (xs : List A) (i : ℕ) → slice_get (map g xs) i ≡ option_map g (slice_get xs i)
map_get g [] i = refl
map_get g (x ∷ xs) zero = refl
map_get g (x ∷ xs) (suc i) = map_get g xs i

place_step : (p : ℕ) (was : Option Line) (x : Place × Block) (t : Bool) → touches p x.1 ≡ t → 1 ≤ x.0.frame → ((l : Line) → was ≡ Some l → 1 ≤ l.at.place.frame)
    → (l : Line) → line_of p was (x ∷ []) ≡ Some l → 1 ≤ l.at.place.frame
place_step p was x true e from all l is =
    (let same : place_in (line_of p was (x ∷ [])) ≡ Some x.0 = rw e (ap (λ (q : Place). Some q)
    (at_place (sets p x.1) x.0 (at_in was))) in let both : Some l.at.place ≡ Some x.0 = sym (ap place_in is) ∙ same
    in let eq : l.at.place ≡ x.0 = cc in
    subst (λ (q : Place). 1 ≤ q.frame) (sym eq) from)
place_step p was x false e from all l is = (let same : line_of p was (x ∷ []) ≡ was = rw e refl in all l (sym same ∙ is))

place_after : (p : ℕ) (was : Option Line) (xs : List (Place × Block)) → AllByRecursion (λ x. 1 ≤ x.0.frame) xs
    → ((l : Line) → was ≡ Some l → 1 ≤ l.at.place.frame)
    → (l : Line) → line_of p was xs ≡ Some l → 1 ≤ l.at.place.frame
place_after p was [] from all l is = all l is
place_after p was (x ∷ xs) from all l is = place_after p (line_of p was (x ∷ [])) xs from.1 (place_step p was x (touches p x.1) refl from.0 all) l is

none_line : (l : Line) → None ≡ Some l → 1 ≤ l.at.place.frame
none_line l is = absurd cc

pub table_is : (m : ℕ) (frames : List Frame) (es : List Paged) → Rise 0 es → AreOf frames es → AllByRecursion (λ f. 1 ≤ f.number) frames
    → first_wrong m (leaves_set (blocks_of frames)) 0 es ≡ None → IsTable (map at_line es) frames
table_is m frames es rise of from none = record { places = places; bases = bases; walks = walks } where
  here : (p : ℕ) → 1 ≤ p → option_map (λ e. e.1) (slice_get es (p - 1)) ≡ line_of p None (all_placed frames)
  here p one = (let same : 0 + 1 + (p - 1) ≡ p = omega arith in stands_here m 0 (leaves_set (blocks_of frames)) es (p - 1) rise none
      ∙ ap (λ (q : ℕ). line_at q es) same ∙ of p)

  places : (p : ℕ) → 1 ≤ p → log.place_in (λ e. e.place) (map at_line es) p ≡ place_of p frames
  places p one =
      ap (entry_place (λ e. e.place)) (map_get at_line es (p - 1))
      ∙ place_by (slice_get es (p - 1)) (place_of p frames) (ap place_in (here p one) ∙ place_of_is p frames)
      (λ l is. place_after p None (all_placed frames) (all_from frames from) none_line l (sym (here p one) ∙ is))

  bases : (p : ℕ) → 1 ≤ p → log.place_in (λ e. e.base) (map at_line es) p ≡ base_of p frames
  bases p one =
      ap (entry_place (λ e. e.base)) (map_get at_line es (p - 1))
      ∙ base_by (slice_get es (p - 1)) (base_of p frames) (ap (λ (o : Option Line). some_place (at_in o).base) (here p one) ∙ base_is p frames from)

  walks : (p : ℕ) → 1 ≤ p → log.walk_in (map at_line es) p ≡ walk_to p frames
  walks p one =
      ap entry_walk (map_get at_line es (p - 1))
      ∙ walk_by (slice_get es (p - 1)) ∙ ap walk_line (here p one) ∙ walk_is p frames

-- ---- together

pub wrong_among : (m : ℕ) (frames : List Frame) (es : List Paged) (got : Bytes → Option ℕ) (o : Option ℕ) → AllByRecursion (HasLawful m) frames → Rise 0 es
    → AreOf frames es → IsIndex es got
    → ((set : List Leaf) → IsLows set got → AllByRecursion (λ e. IsShortIf e.1.leaf) es → o ≡ first_wrong m set 0 es) → o ≡ fault_among m frames
wrong_among m frames es got o laws rise of index is =
    let blocks_law = blocks_lawful m frames laws in
    let from = from_of frames es of in
    is (leaves_set (blocks_of frames)) (lows_are m (blocks_of frames) es got blocks_law rise from index)
    (short_all m (blocks_of frames) es blocks_law rise from)
    ∙ fault_is m frames es rise of

pub numbers_from : (m : ℕ) (frames : List Frame) → AllByRecursion (HasLawful m) frames → AllByRecursion (λ x. 1 ≤ x.number) frames
numbers_from m [] laws = tt
numbers_from m (x ∷ xs) laws = (laws.0.0, numbers_from m xs laws.1)

pub none_wrong : (m : ℕ) (frames : List Frame) (es : List Paged) → Rise 0 es → AreOf frames es → fault_among m frames ≡ None
    → first_wrong m (leaves_set (blocks_of frames)) 0 es ≡ None
none_wrong m frames es rise of none = fault_is m frames es rise of ∙ none

pub lawful_leaves : (m : ℕ) (frames : List Frame) (es : List Paged) → AllByRecursion (HasLawful m) frames → 1 ≤ length frames → Rise 0 es → AreOf frames es
    → fault_among m frames ≡ None → AreLeaves m (leaves_in es)
lawful_leaves m frames es laws some rise of none =
    subst (AreLeaves m) (sym (found_leaves m frames es rise of (none_wrong m frames es rise of none))) (found_stands m frames laws some none).lawful

pub map_length : {A B : Type 0} (g : A → B) (xs : List A) → length (map g xs) ≡ length xs
map_length g [] = refl
map_length g (x ∷ xs) = ap suc (map_length g xs)

pub right_pages : (m : ℕ) (frames : List Frame) (es : List Paged) (r : Pages) → AllByRecursion (HasLawful m) frames → Rise 0 es → AreOf frames es
    → fault_among m frames ≡ None
    → r.leaves.m ≡ m → r.leaves.leaves ≡ leaves_in es → r.table.items ≡ map at_line es → r.pairs ≡ finite.len (union r.leaves.leaves)
    → IsRight m frames r
right_pages m frames es r laws rise of none limit leaves table pairs =
    let no_fault = none_wrong m frames es rise of none in
    record {
      none = none;
      limit = limit;
      leaves = leaves ∙ found_leaves m frames es rise of no_fault;
      table = subst (λ (t : List PageAt). IsTable t frames) (sym table) (table_is m frames es rise of (numbers_from m frames laws) no_fault);
      count = ap (λ (t : List PageAt). length t) table ∙ map_length at_line es ∙ sym (leaves_count m 0 (leaves_set (blocks_of frames)) es no_fault)
          ∙ sym (ap (λ (l : List Leaf). length l) leaves);
      pairs = pairs;
    }
