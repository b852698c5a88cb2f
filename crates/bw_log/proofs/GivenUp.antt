-- The log without its oldest segment, where no page's last setting block stands in it.

use Rattle.std.proofs.Common.{inl, inr, ◌≡◌, ◌≢◌, ℕ, suc, ◌+◌, ◌-◌, ◌<◌, ◌≤◌, ◌==◌, ◌⊎◌, not, nat_lt, Bool, true, false, if◌then◌else◌, Option, Some, None}
use Rattle.std.proofs.Common.{List, [], ◌∷◌, ◌++◌, length, map, refl, sym, ap, subst, ◌∙◌, append_assoc, append-nil, arith, length-append}
use Rattle.std.specs.List.{fold, filter, list_any, slice_get, AllByRecursion}
use Rattle.std.proofs.lemmas.List.Folds.{list_any-append}
use Rattle.std.proofs.lemmas.Bool.{true_from_ne_false, or_parts, or_from, and_parts, and_from, eqb-true, eq-eqb, ne_eqb, ltb-true, lt-ltb, false≢true}
use Rattle.std.proofs.lemmas.Bool.{true≢false, cases_lt}
use Rattle.std.proofs.lemmas.List.{map-append}
use Rattle.std.proofs.lemmas.List.Elements.{filter-append}
use Rattle.std.proofs.lemmas.Option.{slice_get_past}
use Rattle.std.proofs.lemmas.Grind.{fold-append, flat_map-append}
use Rattle.bw_record.specs.Touch.{sets, touches}
use Rattle.bw_codec.specs.Grammar.{frame_bytes_in, IsFrameIn}
use Rattle.bw_codec.specs.Reading.{version_in}
use Rattle.bw_record.specs.declared.leaf.Leaf.{Leaf}
use Rattle.bw_record.specs.declared.block.Place.{Place}
use Rattle.bw_record.specs.declared.block.Block.{Block}
use Rattle.bw_record.specs.declared.block.Block.TheVariants.{Delta, Base, Split}
use Rattle.bw_record.specs.declared.block.Frame.{Frame}
use Rattle.bw_page.specs.Leaves.{BeginsEmpty}
use Rattle.bw_leaf.specs.Forwards.{after, content, blocks_of}
use Rattle.bw_page.specs.Standing.{Stand}
use Rattle.bw_log.specs.Places.{placed, all_placed, later, last_place, is_back, fault_at, fault_of, or_else, bad_link, first_number, place_of}
use Rattle.bw_log.specs.Places.{base_of, walked, walk_to}
use Rattle.bw_log.specs.Places.{AreLinked}
use Rattle.bw_log.specs.Segments.{segment_frames, frames_of, entries_from, entries, AreLive, IsCleanLast, AreFrom, following, next_of, is_before_next}
use Rattle.bw_log.specs.Contents.{Image, limits_of, counted_in, place_in, entry_place, walk_in, entry_walk, IsImage, IsStanding}
use Rattle.bw_log.specs.Oldest.{IsAfter}
use Rattle.bw_log.specs.declared.places.FrameAt.{FrameAt}
use Rattle.bw_log.specs.declared.places.PageAt.{PageAt}
use Rattle.bw_log.proofs.Adding.{filter_all}
use Rattle.bw_log.proofs.Walk.{sets_touches, none_fold, forgets_fold}
use Rattle.bw_log.proofs.Links.{InFrames, frames_last, bad_link-append, neither}
use Rattle.bw_log.proofs.Entries.{all_append, all_filtered}
use Rattle.bw_log.proofs.Walks.{blocks_more, content_more}
use Rattle.bw_log.proofs.Walked.{set_by}

-- ---- filters

dropped_by : {X : Type 0} (test : X → Bool) (x : X) (xs : List X) (t : Bool) → t ≡ false → filter test xs ≡ []
    → (if t then x ∷ filter test xs else filter test xs) ≡ []
dropped_by test x xs true is same = absurd (true≢false is)
dropped_by test x xs false is same = same

pub filter_none : {X : Type 0} (test : X → Bool) (xs : List X) → AllByRecursion (λ x. test x ≡ false) xs → filter test xs ≡ []
filter_none test [] all = refl
filter_none test (x ∷ xs) all = dropped_by test x xs (test x) all.0 (filter_none test xs all.1)

longer_by : {X : Type 0} (test : X → Bool) (x : X) (xs : List X) (t : Bool) → length (filter test xs) ≤ length xs
    → length (if t then x ∷ filter test xs else filter test xs) ≤ suc (length xs)
longer_by test x xs true le = omega arith
longer_by test x xs false le = omega arith

not_longer : {X : Type 0} (test : X → Bool) (xs : List X) → length (filter test xs) ≤ length xs
not_longer test [] = omega arith
not_longer test (x ∷ xs) = longer_by test x xs (test x) (not_longer test xs)

passes_by : {X : Type 0} (test : X → Bool) (x : X) (xs : List X) (t : Bool) → (if t then x ∷ filter test xs else filter test xs) ≡ x ∷ xs
    → (t ≡ true) × (filter test xs ≡ xs)
passes_by test x xs true same = (refl, cc)
passes_by {X} test x xs false same = absurd (omega (arith, not_longer test xs, ap (λ (l : List X). length l) same))

-- what a filter leaves as it is passes it
pub all_pass : {X : Type 0} (test : X → Bool) (xs : List X) → filter test xs ≡ xs → AllByRecursion (λ x. test x ≡ true) xs
all_pass test [] same = tt
all_pass test (x ∷ xs) same = let two = passes_by test x xs (test x) same in (two.0, all_pass test xs two.1)

pub all_behind : {X : Type 0} (P : X → Type 0) (xs ys : List X) → AllByRecursion P (xs ++ ys) → AllByRecursion P ys
all_behind P [] ys all = all
all_behind P (x ∷ xs) ys all = all_behind P xs ys all.1

pub all_before : {X : Type 0} (P : X → Type 0) (xs ys : List X) → AllByRecursion P (xs ++ ys) → AllByRecursion P xs
all_before P [] ys all = tt
all_before P (x ∷ xs) ys all = (all.0, all_before P xs ys all.1)

pub all_map : {X Y : Type 0} (g : X → Y) (P : Y → Type 0) (xs : List X) → AllByRecursion (λ x. P (g x)) xs → AllByRecursion P (map g xs)
all_map g P [] all = tt
all_map g P (x ∷ xs) all = (all.0, all_map g P xs all.1)

-- ---- numbers

from_behind : (n : ℕ) (xs ys : List Frame) → AreFrom n (xs ++ ys) → AreFrom (n + length xs) ys
from_behind n [] ys are = let e : n + length {A = Frame} [] ≡ n = omega arith in subst (λ (k : ℕ). AreFrom k ys) (sym e) are
from_behind n (x ∷ xs) ys are =
    let e : n + 1 + length xs ≡ n + length (x ∷ xs) = omega arith in
    subst (λ (k : ℕ). AreFrom k ys) e (from_behind (n + 1) xs ys are.1)

from_before : (n : ℕ) (xs ys : List Frame) → AreFrom n (xs ++ ys) → AreFrom n xs
from_before n [] ys are = tt
from_before n (x ∷ xs) ys are = (are.0, from_before (n + 1) xs ys are.1)

from_own : (n : ℕ) (xs : List Frame) → AreFrom n xs → AreFrom (first_number xs) xs
from_own n [] are = tt
from_own n (x ∷ xs) are = (refl, subst (λ (k : ℕ). AreFrom (k + 1) xs) (sym are.0) are.1)

first_of : (n : ℕ) (x : Frame) (xs : List Frame) → AreFrom n (x ∷ xs) → first_number (x ∷ xs) ≡ n
first_of n x xs are = are.0

-- the last number
last_from : (n w : ℕ) (x : Frame) (xs : List Frame) → AreFrom n (x ∷ xs) → fold (λ was f. f.number) w (x ∷ xs) ≡ n + length xs
last_from n w x [] are = are.0 ∙ (omega arith)
last_from n w x (y ∷ ys) are = last_from (n + 1) x.number y ys are.1 ∙ (omega arith)

-- ---- the last place

or_else_three : {A : Type 0} (x y z : Option A) → or_else x (or_else y z) ≡ or_else (or_else x y) z
or_else_three None y z = refl
or_else_three (Some x) y z = refl

later_none : (test : Block → Bool) (acc : Option Place) (b : Place × Block) (t : Bool)
    → (if t then Some b.0 else acc) ≡ or_else (if t then Some b.0 else None) acc
later_none test acc b true = refl
later_none test acc b false = refl

later_over : (test : Block → Bool) (acc : Option Place) (bs : List (Place × Block)) → fold (later test) acc bs ≡ or_else (fold (later test) None bs) acc
later_over test acc [] = refl
later_over test acc (b ∷ bs) =
    later_over test (later test acc b) bs
    ∙ ap (or_else (fold (later test) None bs)) (later_none test acc b (test b.1))
    ∙ or_else_three (fold (later test) None bs) (later test None b) acc
    ∙ ap (λ (o : Option Place). or_else o acc) (sym (later_over test (later test None b) bs))

pub last_of_two : (test : Block → Bool) (xs ys : List (Place × Block)) → last_place test (xs ++ ys) ≡ or_else (last_place test ys) (last_place test xs)
last_of_two test xs ys = fold-append (later test) None xs ys ∙ later_over test (last_place test xs) ys

pub placed_more : (xs ys : List Frame) → all_placed (xs ++ ys) ≡ all_placed xs ++ all_placed ys
placed_more xs ys = flat_map-append (λ (f : Frame). placed f.number 0 f.blocks) xs ys

pub last_over_frames : (test : Block → Bool) (xs ys : List Frame)
    → last_place test (all_placed (xs ++ ys)) ≡ or_else (last_place test (all_placed ys)) (last_place test (all_placed xs))
last_over_frames test xs ys = ap (last_place test) (placed_more xs ys) ∙ last_of_two test (all_placed xs) (all_placed ys)

-- a place in frames numbered from n is in one of them
place_within_by : (test : Block → Bool) (n : ℕ) (fs : List Frame) (result : Option Place) (place : Place) → InFrames test n None fs result → result ≡ Some place
    → (n ≤ place.frame) × (place.frame < n + length fs)
place_within_by test n fs result place (inl nowhere) is = absurd cc
place_within_by test n fs result place (inr found) is =
    let same : found.0 ≡ place = cc in
    let at = found.2.at in
    let number : place.frame ≡ n + length at.older = ap (λ (x : Place). x.frame) (sym same) ∙ at.number in
    let len = ap (λ (l : List Frame). length l) at.split in
    (omega arith, omega (arith, len, length-append at.older (at.frame ∷ at.newer)))

pub place_within : (test : Block → Bool) (n : ℕ) (fs : List Frame) (place : Place) → AreFrom n fs → last_place test (all_placed fs) ≡ Some place
    → (n ≤ place.frame) × (place.frame < n + length fs)
place_within test n fs place are is = place_within_by test n fs (last_place test (all_placed fs)) place (frames_last test n None fs are) is

-- a block that passes has a place
any_placed_by : (test : Block → Bool) (n : ℕ) (fs : List Frame) (result : Option Place) → InFrames test n None fs result → result ≡ None
    → list_any test (blocks_of fs) ≡ false
any_placed_by test n fs result (inl nowhere) is = nowhere.0
any_placed_by test n fs result (inr found) is = absurd cc

pub none_placed : (test : Block → Bool) (n : ℕ) (fs : List Frame) → AreFrom n fs → last_place test (all_placed fs) ≡ None → list_any test (blocks_of fs) ≡ false
none_placed test n fs are is = any_placed_by test n fs (last_place test (all_placed fs)) (frames_last test n None fs are) is

some_placed_by : (test : Block → Bool) (n : ℕ) (fs : List Frame) (result : Option Place) (place : Place) → InFrames test n None fs result → result ≡ Some place
    → list_any test (blocks_of fs) ≡ false → ⊥
some_placed_by test n fs result place (inl nowhere) is none = cc
some_placed_by test n fs result place (inr found) is none =
    let at = found.2.at in
    let all : list_any test (blocks_of at.older ++ (at.frame.blocks ++ blocks_of at.newer)) ≡ false =
    ap (list_any test) (sym (ap blocks_of at.split ∙ blocks_more at.older (at.frame ∷ at.newer))) ∙ none in
    let behind = or_parts (list_any test (blocks_of at.older)) (list_any test (at.frame.blocks ++ blocks_of at.newer))
    (sym (list_any-append test (blocks_of at.older) (at.frame.blocks ++ blocks_of at.newer)) ∙ all) in
    let here = or_parts (list_any test at.frame.blocks) (list_any test (blocks_of at.newer))
    (sym (list_any-append test at.frame.blocks (blocks_of at.newer)) ∙ behind.1) in
    true≢false (sym found.2.passes ∙ here.0)

-- ---- links of what is left

relink_by : (first next : ℕ) (kept lost : Option Place) (back : Place)
    → ((place : Place) → lost ≡ Some place → (1 ≤ place.frame) × (place.frame < next)) → first ≤ next
    → is_back first (or_else kept lost) back ≡ true → is_back next kept back ≡ true
relink_by first next (Some x) lost back within le is = is
relink_by first next None (Some x) back within le is =
    let both = and_parts (x.frame == back.frame) (x.index == back.index) is in
    let same : x.frame ≡ back.frame = eqb-true x.frame back.frame both.0 in
    let in_range = within x refl in
    let low = in_range.0 in
    let high = in_range.1 in
    and_from (nat_lt 0 back.frame) (nat_lt back.frame next) (lt-ltb 0 back.frame (omega arith)) (lt-ltb back.frame next (omega arith))
relink_by first next None None back within le is =
    let both = and_parts (nat_lt 0 back.frame) (nat_lt back.frame first) is in
    let below : back.frame < first = ltb-true back.frame first both.1 in
    and_from (nat_lt 0 back.frame) (nat_lt back.frame next) both.0 (lt-ltb back.frame next (omega arith))

-- all places of the frames given up are in this range
abbrev Within : ℕ → List (Place × Block) → Type 0
Within next gone = (page : ℕ) (place : Place) → last_place (touches page) gone ≡ Some place → (1 ≤ place.frame) × (place.frame < next)

none_by : (t : Bool) (page : ℕ) → t ≡ true → ◌≡◌ {A = Option ℕ} (if t then None else Some page) None
none_by true page is = refl
none_by false page is = absurd (false≢true is)

true_by : (t : Bool) (page : ℕ) → ◌≡◌ {A = Option ℕ} (if t then None else Some page) None → t ≡ true
true_by true page is = refl
true_by false page is = absurd cc

refault_at : (first next : ℕ) (gone before : List (Place × Block)) (page : ℕ) (back : Place) → Within next gone → first ≤ next
    → fault_at first (gone ++ before) page back ≡ None → fault_at next before page back ≡ None
refault_at first next gone before page back within le none =
    let was : is_back first (last_place (touches page) (gone ++ before)) back ≡ true =
    true_by (is_back first (last_place (touches page) (gone ++ before)) back) page none in
    let behind : is_back first (or_else (last_place (touches page) before) (last_place (touches page) gone)) back ≡ true =
    ap (λ (o : Option Place). is_back first o back) (sym (last_of_two (touches page) gone before)) ∙ was in
    none_by (is_back next (last_place (touches page) before) back) page
    (relink_by first next (last_place (touches page) before) (last_place (touches page) gone) back (within page) le behind)

refault : (first next : ℕ) (gone before : List (Place × Block)) (b : Block) → Within next gone → first ≤ next → fault_of first (gone ++ before) b ≡ None
    → fault_of next before b ≡ None
refault first next gone before (Delta page back ops) within le none = refault_at first next gone before page back within le none
refault first next gone before (Base leaf) within le none = refl
refault first next gone before (Split page back upper) within le none = refault_at first next gone before page back within le none

or_none : {A : Type 0} (x y : Option A) → x ≡ None → y ≡ None → or_else x y ≡ None
or_none None y a b = b
or_none (Some x) y a b = absurd cc

relink : (first next : ℕ) (gone before xs : List (Place × Block)) → Within next gone → first ≤ next → bad_link first (gone ++ before) xs ≡ None
    → bad_link next before xs ≡ None
relink first next gone before [] within le none = refl
relink first next gone before (x ∷ xs) within le none =
    let two = neither (fault_of first (gone ++ before) x.1) (bad_link first ((gone ++ before) ++ x ∷ []) xs) none in
    or_none (fault_of next before x.1) (bad_link next (before ++ x ∷ []) xs)
    (refault first next gone before x.1 within le two.0)
    (relink first next gone (before ++ x ∷ []) xs within le
    (ap (λ (l : List (Place × Block)). bad_link first l xs) (sym (append_assoc gone before (x ∷ []))) ∙ two.1))

-- ---- a log whose oldest segment may go

pub record MayGo (i : Image) (b : List ℕ) (bs : List (List ℕ)) : Type 0 where
  pub holds : IsImage i
  pub bytes : i.bytes ≡ b ∷ bs
  pub more : 1 ≤ length bs
  pub works : i.is_failed ≡ false
  pub bases : (p : ℕ) → 1 ≤ p → p ≤ length i.pages
      → IsAfter (fold (λ was f. f.number) 0 (filter (λ f. is_before_next i.next f.number) (segment_frames b))) (base_of p (counted_in i))

-- the log afterwards
abbrev pub without_oldest : Image → List (List ℕ) → List FrameAt → Image
without_oldest i bs frames = record i { number = i.number + 1; bytes = bs; frames = frames }

module _ (i : Image) (b : List ℕ) (bs : List (List ℕ)) (go : MayGo i b bs) where
  pub counts : counted_in i ≡ segment_frames b ++ frames_of bs
  counts = go.holds.every go.works ∙ ap frames_of go.bytes

  tests : AllByRecursion (λ f. is_before_next i.next f.number ≡ true) (segment_frames b ++ frames_of bs)
  tests =
      subst (λ (l : List (List ℕ)). AllByRecursion (λ (f : Frame). is_before_next i.next f.number ≡ true) (frames_of l)) go.bytes
      (all_pass (λ (f : Frame). is_before_next i.next f.number) (frames_of i.bytes) (go.holds.every go.works))

  pub kept_counts : filter (λ f. is_before_next i.next f.number) (frames_of bs) ≡ frames_of bs
  kept_counts = filter_all (λ (f : Frame). is_before_next i.next f.number) (frames_of bs)
      (all_behind (λ (f : Frame). is_before_next i.next f.number ≡ true) (segment_frames b) (frames_of bs) tests)

  gone_counts : filter (λ f. is_before_next i.next f.number) (segment_frames b) ≡ segment_frames b
  gone_counts = filter_all (λ (f : Frame). is_before_next i.next f.number) (segment_frames b)
      (all_before (λ (f : Frame). is_before_next i.next f.number ≡ true) (segment_frames b) (frames_of bs) tests)

  numbers : AreFrom (first_number (segment_frames b ++ frames_of bs)) (segment_frames b ++ frames_of bs)
  numbers = subst (λ (fs : List Frame). AreFrom (first_number fs) fs) counts go.holds.numbered

  stood : IsStanding i.m (segment_frames b ++ frames_of bs) (length i.pages)
  stood = subst (λ (fs : List Frame). IsStanding i.m fs (length i.pages)) counts go.holds.stands

  after_last : (p : ℕ) → 1 ≤ p → p ≤ length i.pages → IsAfter (fold (λ was f. f.number) 0 (segment_frames b)) (base_of p (segment_frames b ++ frames_of bs))
  after_last p some inside =
      subst (λ (fs : List Frame). IsAfter (fold (λ was f. f.number) 0 fs) (base_of p (segment_frames b ++ frames_of bs))) gone_counts
      (subst (λ (fs : List Frame). IsAfter (fold (λ was f. f.number) 0 (filter (λ f. is_before_next i.next f.number) (segment_frames b))) (base_of p fs)) counts
      (go.bases p some inside))

-- ---- each page is set in what is left

-- a place in the frames given up is not after their last
not_after : (n : ℕ) (gone : List Frame) (place : Place) → AreFrom n gone → (n ≤ place.frame) × (place.frame < n + length gone)
    → fold (λ was f. f.number) 0 gone < place.frame → ⊥
not_after n [] place are within after = let low = within.0 in let high = within.1 in absurd (omega arith)
not_after n (x ∷ xs) place are within after = let high = within.1 in absurd (omega (arith, last_from n 0 x xs are))

base_by : (p n : ℕ) (gone kept : List Frame) (in_kept all : Option Place) → AreFrom n gone → last_place (sets p) (all_placed kept) ≡ in_kept
    → base_of p (gone ++ kept) ≡ all
    → (all ≡ None → ⊥) → IsAfter (fold (λ was f. f.number) 0 gone) all → (place : Place) × (in_kept ≡ Some place)
base_by p n gone kept (Some place) all are here is some after = (place, refl)
base_by p n gone kept None None are here is some after = absurd (some refl)
base_by p n gone kept None (Some place) are here is some after =
    let there : last_place (sets p) (all_placed gone) ≡ Some place =
    ap (λ (o : Option Place). or_else o (last_place (sets p) (all_placed gone))) (sym here) ∙ sym (last_over_frames (sets p) gone kept) ∙ is in
    absurd (not_after n gone place are (place_within (sets p) n gone place are there) after)

set_kept_by : (p n : ℕ) (gone kept : List Frame) (leaf : Leaf) → AreFrom n (gone ++ kept) → content p (blocks_of (gone ++ kept)) ≡ Some leaf
    → IsAfter (fold (λ was f. f.number) 0 gone) (base_of p (gone ++ kept))
    → list_any (sets p) (blocks_of kept) ≡ true
set_kept_by p n gone kept leaf are set after =
    let some : base_of p (gone ++ kept) ≡ None → ⊥ =
    λ none. (let e : None ≡ Some leaf = sym (none_fold p (blocks_of (gone ++ kept)) (none_placed (sets p) n (gone ++ kept) are none)) ∙ set in cc) in
    let kept_are = from_behind n gone kept are in
    let base = base_by p n gone kept (last_place (sets p) (all_placed kept)) (base_of p (gone ++ kept)) (from_before n gone kept are) refl refl some after in
    true_from_ne_false (list_any (sets p) (blocks_of kept))
    (some_placed_by (sets p) (n + length gone) kept (last_place (sets p) (all_placed kept)) base.0
    (frames_last (sets p) (n + length gone) None kept kept_are) base.1)

any_touched : (p : ℕ) (bs : List Block) → list_any (touches p) bs ≡ false → list_any (sets p) bs ≡ false
any_touched p [] none = refl
any_touched p (b ∷ bs) none =
    let two = or_parts (touches p b) (list_any (touches p) bs) none in
    or_from (sets p b) (list_any (sets p) bs) (sets_touches p b two.0) (any_touched p bs two.1)

-- the last place in all frames is that in what is left, if the table has the page, or nothing
table_by : (field : PageAt → Place) (test : Block → Bool) (pages : List PageAt) (p n : ℕ) (gone kept : List Frame) (in_kept : Option Place) → 1 ≤ p
    → AreFrom n kept → last_place test (all_placed kept) ≡ in_kept
    → (p ≤ length pages → list_any test (blocks_of kept) ≡ true) → place_in field pages p ≡ last_place test (all_placed (gone ++ kept))
    → place_in field pages p ≡ in_kept
table_by field test pages p n gone kept (Some place) some are here passes says =
    says ∙ last_over_frames test gone kept ∙ ap (λ (o : Option Place). or_else o (last_place test (all_placed gone))) here
table_by field test pages p n gone kept None some are here passes says =
    let none = none_placed test n kept are here in
    elim (cases_lt (length pages) p) [
      | inl beyond ↦ ap (entry_place field) (slice_get_past pages (p - 1) (omega arith))
      | inr inside ↦ absurd (true≢false (sym (passes inside) ∙ none))
    ]

never_none : {A : Type 0} (x : A) (o : Option A) → or_else o (Some x) ≡ None → ⊥
never_none x None e = cc
never_none x (Some y) e = cc

-- a walk does not change where no block touches the page
stays_by : (p : ℕ) (w : ℕ × ℕ) (x : Place × Block) (xs : List (Place × Block)) (t : Bool) → touches p x.1 ≡ t
    → fold (later (touches p)) (if t then Some x.0 else None) xs ≡ None → (last_place (touches p) xs ≡ None → fold (walked p) w xs ≡ w)
    → fold (walked p) (walked p w x) xs ≡ w
stays_by p w x xs true is none others =
    let some : or_else (last_place (touches p) xs) (Some x.0) ≡ None = sym (later_over (touches p) (Some x.0) xs) ∙ none in
    absurd (never_none x.0 (last_place (touches p) xs) some)
stays_by p w x xs false is none others =
    ap (λ (v : ℕ × ℕ). fold (walked p) v xs) (rw (sets_touches p x.1 is, is) refl) ∙ others none

pub walk_stays : (p : ℕ) (w : ℕ × ℕ) (xs : List (Place × Block)) → last_place (touches p) xs ≡ None → fold (walked p) w xs ≡ w
walk_stays p w [] none = refl
walk_stays p w (x ∷ xs) none = stays_by p w x xs (touches p x.1) refl none (walk_stays p w xs)

-- what sets the page forgets how far it was read before
forgets_by : (p : ℕ) (v w : ℕ × ℕ) (x : Place × Block) (xs : List (Place × Block)) (place : Place) (t : Bool) → sets p x.1 ≡ t
    → fold (later (sets p)) (if t then Some x.0 else None) xs ≡ Some place
    → ((v w : ℕ × ℕ) → last_place (sets p) xs ≡ Some place → fold (walked p) v xs ≡ fold (walked p) w xs)
    → fold (walked p) (walked p v x) xs ≡ fold (walked p) (walked p w x) xs
forgets_by p v w x xs place true is some others =
    let one : (u : ℕ × ℕ) → walked p u x ≡ (x.0.frame, 1) = λ u. rw is refl in
    ap (λ (u : ℕ × ℕ). fold (walked p) u xs) (one v ∙ sym (one w))
forgets_by p v w x xs place false is some others = others (walked p v x) (walked p w x) some

pub walk_forgets : (p : ℕ) (v w : ℕ × ℕ) (xs : List (Place × Block)) (place : Place) → last_place (sets p) xs ≡ Some place
    → fold (walked p) v xs ≡ fold (walked p) w xs
walk_forgets p v w [] place some = absurd cc
walk_forgets p v w (x ∷ xs) place some = forgets_by p v w x xs place (sets p x.1) refl some (λ a b. walk_forgets p a b xs place)

-- the walk over all frames is that over what is left, if the table has the page, or nothing
walk_by : (pages : List PageAt) (p n : ℕ) (gone kept : List Frame) (in_kept : Option Place) → 1 ≤ p → AreFrom n kept
    → last_place (sets p) (all_placed kept) ≡ in_kept → (p ≤ length pages → list_any (sets p) (blocks_of kept) ≡ true)
    → place_in (λ e. e.place) pages p ≡ last_place (touches p) (all_placed kept) → walk_in pages p ≡ walk_to p (gone ++ kept)
    → walk_in pages p ≡ walk_to p kept
walk_by pages p n gone kept (Some place) some are here passes there says =
    says ∙ ap (fold (walked p) (0, 0)) (placed_more gone kept) ∙ fold-append (walked p) (0, 0) (all_placed gone) (all_placed kept)
    ∙ walk_forgets p (walk_to p gone) (0, 0) (all_placed kept) place here
walk_by pages p n gone kept None some are here passes there says =
    let none = none_placed (sets p) n kept are here in
    elim (cases_lt (length pages) p) [
      | inl beyond ↦ (
          let past : slice_get pages (p - 1) ≡ None = slice_get_past pages (p - 1) (omega arith) in
          ap entry_walk past
          ∙ sym (walk_stays p (0, 0) (all_placed kept) (sym there ∙ ap (entry_place (λ (e : PageAt). e.place)) past)))
      | inr inside ↦ absurd (true≢false (sym (passes inside) ∙ none))
    ]

some_frame : (test : Block → Bool) (fs : List Frame) → list_any test (blocks_of fs) ≡ true → 1 ≤ length fs
some_frame test [] is = absurd cc
some_frame test (f ∷ fs) is = omega arith

pub content_stays : (p : ℕ) (gone kept : List Frame) → list_any (sets p) (blocks_of kept) ≡ true
    → content p (blocks_of (gone ++ kept)) ≡ content p (blocks_of kept)
content_stays p gone kept set = content_more p gone kept ∙ forgets_fold p (content p (blocks_of gone)) None (blocks_of kept) set

both_nil : (xs ys : List Frame) → xs ++ ys ≡ [] → (xs ≡ []) × (ys ≡ [])
both_nil [] ys e = (refl, e)
both_nil (x ∷ xs) ys e = absurd cc

some_leaves : (leaves : List Leaf) → BeginsEmpty leaves → 1 ≤ length leaves
some_leaves [] begins = absurd begins
some_leaves (l ∷ ls) begins = omega arith

next_over : (w v : Option ℕ) (fs : List Frame) → 1 ≤ length fs → fold (λ was f. following f.number) w fs ≡ fold (λ was f. following f.number) v fs
next_over w v [] some = absurd (omega arith)
next_over w v (f ∷ fs) some = refl

-- ---- what is left stands as it did

-- each page of the table is set in what is left
pub set_kept : (i : Image) (b : List ℕ) (bs : List (List ℕ)) → MayGo i b bs → (p : ℕ) → 1 ≤ p → p ≤ length i.pages
    → list_any (sets p) (blocks_of (frames_of bs)) ≡ true
set_kept i b bs go p some inside =
    let set = set_by i.m (segment_frames b ++ frames_of bs) (length i.pages) p (stood i b bs go) some inside in
    set_kept_by p (first_number (segment_frames b ++ frames_of bs)) (segment_frames b) (frames_of bs) set.0 (numbers i b bs go) set.1
    (after_last i b bs go p some inside)

pub stand_kept : (m pages : ℕ) (gone kept : List Frame) (leaves : List Leaf) → ((p : ℕ) → 1 ≤ p → p ≤ pages → list_any (sets p) (blocks_of kept) ≡ true)
    → Stand m (gone ++ kept) leaves → length leaves ≡ pages → Stand m kept leaves
stand_kept m pages gone kept leaves set stand len = record {
  some = (let one = some_leaves leaves stand.lawful.first in some_frame (sets 1) kept (set 1 (omega arith) (omega arith)));
  lawful = stand.lawful;
  each = λ p low high. sym (content_stays p gone kept (set p low (omega arith))) ∙ stand.each p low high;
  all = λ p beyond. all_behind (λ (b : Block). touches p b ≡ false) (blocks_of gone) (blocks_of kept)
      (subst (AllByRecursion (λ (b : Block). touches p b ≡ false)) (blocks_more gone kept) (stand.all p beyond));
}

standing_kept : (m pages : ℕ) (gone kept : List Frame) → ((p : ℕ) → 1 ≤ p → p ≤ pages → list_any (sets p) (blocks_of kept) ≡ true)
    → IsStanding m (gone ++ kept) pages → IsStanding m kept pages
standing_kept m pages gone kept set (inl none) = inl ((both_nil gone kept none.0).1, none.1)
standing_kept m pages gone kept set (inr stands) = inr (stands.0, stand_kept m pages gone kept stands.0 set stands.1 stands.2, stands.2)

next_kept : (m pages : ℕ) (gone kept : List Frame) → ((p : ℕ) → 1 ≤ p → p ≤ pages → list_any (sets p) (blocks_of kept) ≡ true)
    → IsStanding m (gone ++ kept) pages → next_of (gone ++ kept) ≡ next_of kept
next_kept m pages gone kept set (inl none) = let two = both_nil gone kept none.0 in ap next_of none.0 ∙ ap next_of (sym two.1)
next_kept m pages gone kept set (inr stands) =
    let one = some_leaves stands.0 stands.1.lawful.first in
    let len = stands.2 in
    fold-append (λ was (f : Frame). following f.number) (Some 1) gone kept
    ∙ next_over (fold (λ was (f : Frame). following f.number) (Some 1) gone) (Some 1) kept (some_frame (sets 1) kept (set 1 (omega arith) (omega arith)))

-- the links of what is left
links_by : (n : ℕ) (gone kept : List Frame) → 1 ≤ n ⊎ (gone ≡ []) → AreFrom n (gone ++ kept) → bad_link n [] (all_placed (gone ++ kept)) ≡ None
    → bad_link (n + length gone) [] (all_placed kept) ≡ None
links_by n gone kept low are linked =
    let before = from_before n gone kept are in
    let two = neither (bad_link n [] (all_placed gone)) (bad_link n (all_placed gone) (all_placed kept))
    (sym (bad_link-append n [] (all_placed gone) (all_placed kept)) ∙ ap (bad_link n []) (sym (placed_more gone kept)) ∙ linked) in
    relink n (n + length gone) (all_placed gone) [] (all_placed kept)
    (λ page place is. (let w = place_within (touches page) n gone place before is in let l = w.0 in let h = w.1 in (at_least place l h low, h)))
    (omega arith)
    (ap (λ (l : List (Place × Block)). bad_link n l (all_placed kept)) (append-nil (all_placed gone)) ∙ two.1)
  where
    at_least : {n : ℕ} {gone : List Frame} (place : Place) → n ≤ place.frame → place.frame < n + length gone → 1 ≤ n ⊎ (gone ≡ []) → 1 ≤ place.frame
    at_least place l h (inl low) = omega arith
    at_least {n} {gone} place l h (inr none) = absurd (omega (arith, ap (λ (fs : List Frame). length fs) none))

linked_by : (n : ℕ) (kept : List Frame) → AreFrom n kept → bad_link n [] (all_placed kept) ≡ None → AreLinked kept
linked_by n [] are linked = refl
linked_by n (x ∷ xs) are linked = subst (λ (k : ℕ). bad_link k [] (all_placed (x ∷ xs)) ≡ None) (sym are.0) linked

low_by : (v m f : ℕ) (gone kept : List Frame) → AllByRecursion (IsFrameIn v m f) gone → 1 ≤ first_number (gone ++ kept) ⊎ (gone ≡ [])
low_by v m f [] kept lawful = inr refl
low_by v m f (x ∷ xs) kept lawful = inl lawful.0.head.numbered.0

-- ---- the table of frames

own_segment : (v segment at : ℕ) (fs : List Frame) → AllByRecursion (λ e. not (e.0.segment == segment) ≡ false) (entries_from v segment at fs)
own_segment v segment at [] = tt
own_segment v segment at (f ∷ fs) = (ap not (eq-eqb segment segment refl), own_segment v segment (at + length (frame_bytes_in v f)) fs)

later_from : (v segment number at : ℕ) (fs : List Frame) → segment < number
    → AllByRecursion (λ e. not (e.0.segment == segment) ≡ true) (entries_from v number at fs)
later_from v segment number at [] less = tt
later_from v segment number at (f ∷ fs) less =
    let other : number ≢ segment = λ e. absurd (omega arith) in
    (ap not (ne_eqb number segment other), later_from v segment number (at + length (frame_bytes_in v f)) fs less)

later_segments : (segment number : ℕ) (live : List (List ℕ)) → segment < number
    → AllByRecursion (λ e. not (e.0.segment == segment) ≡ true) (entries number live)
later_segments segment number [] less = tt
later_segments segment number (b ∷ bs) less =
    all_append (λ (e : FrameAt × Frame). not (e.0.segment == segment) ≡ true) (entries_from (version_in b) number 24 (segment_frames b))
    (entries (number + 1) bs)
    (later_from (version_in b) segment number 24 (segment_frames b) less) (later_segments segment (number + 1) bs (omega arith))

-- the lines of the oldest segment go
pub lines_kept : (number : ℕ) (next : Option ℕ) (b : List ℕ) (bs : List (List ℕ))
    → filter (λ e. not (e.segment == number)) (map (λ e. e.0) (filter (λ e. is_before_next next e.1.number) (entries number (b ∷ bs))))
    ≡ map (λ e. e.0) (filter (λ e. is_before_next next e.1.number) (entries (number + 1) bs))
lines_kept number next b bs =
    let line : FrameAt × Frame → FrameAt = λ e. e.0 in
    let test : FrameAt × Frame → Bool = λ e. is_before_next next e.1.number in
    let other : FrameAt → Bool = λ e. not (e.segment == number) in
    let own = filter test (entries_from (version_in b) number 24 (segment_frames b)) in
    let rest = filter test (entries (number + 1) bs) in
    let gone : filter other (map line own) ≡ [] =
    filter_none other (map line own) (all_map line (λ (e : FrameAt). other e ≡ false) own
    (all_filtered (λ (e : FrameAt × Frame). not (e.0.segment == number) ≡ false) test (entries_from (version_in b) number 24 (segment_frames b))
    (own_segment (version_in b) number 24 (segment_frames b)))) in
    let kept : filter other (map line rest) ≡ map line rest =
    filter_all other (map line rest) (all_map line (λ (e : FrameAt). other e ≡ true) rest
    (all_filtered (λ (e : FrameAt × Frame). not (e.0.segment == number) ≡ true) test (entries (number + 1) bs)
    (later_segments number (number + 1) bs (omega arith)))) in
    ap (λ (l : List (FrameAt × Frame)). filter other (map line l))
    (filter-append test (entries_from (version_in b) number 24 (segment_frames b)) (entries (number + 1) bs))
    ∙ ap (filter other) (map-append line own rest)
    ∙ filter-append other (map line own) (map line rest)
    ∙ ap (λ (l : List FrameAt). l ++ filter other (map line rest)) gone
    ∙ kept

-- ---- all together

ends_kept : (m f number : ℕ) (b : List ℕ) (bs : List (List ℕ)) → 1 ≤ length bs → IsCleanLast m f number (b ∷ bs) → IsCleanLast m f (number + 1) bs
ends_kept m f number b [] more clean = absurd (omega arith)
ends_kept m f number b (d ∷ bs) more clean = clean

pub given_up : (i : Image) (b : List ℕ) (bs : List (List ℕ)) (frames : List FrameAt) → MayGo i b bs
    → frames ≡ filter (λ e. not (e.segment == i.number)) i.frames → IsImage (without_oldest i bs frames)
given_up i b bs frames go lines =
    let gone = segment_frames b in
    let kept = frames_of bs in
    let pages = length i.pages in
    let n = first_number (gone ++ kept) in
    let after = without_oldest i bs frames in
    let counted : counted_in after ≡ kept = kept_counts i b bs go in
    let set = set_kept i b bs go in
    let are = numbers i b bs go in
    let behind = from_behind n gone kept are in
    let limits = limits_of i go.holds.live.0 in
    let live : AreLive limits i.number (b ∷ bs) = subst (AreLive limits i.number) go.bytes go.holds.live.1 in
    let news = go.holds.news in
    let size = ap (λ (l : List (List ℕ)). length l) go.bytes in
    let was : bad_link n [] (all_placed (gone ++ kept)) ≡ None = subst (λ (fs : List Frame). AreLinked fs) (counts i b bs go) go.holds.linked in
    let touched : (p : ℕ) → 1 ≤ p → p ≤ pages → list_any (touches p) (blocks_of kept) ≡ true =
    λ p some inside. true_from_ne_false (list_any (touches p) (blocks_of kept))
    (λ none. true≢false (sym (set p some inside) ∙ any_touched p (blocks_of kept) none)) in
    let numbers_low = go.holds.numbers in
    let places : (p : ℕ) → 1 ≤ p → place_in (λ e. e.place) i.pages p ≡ last_place (touches p) (all_placed kept) =
    λ p some. table_by (λ e. e.place) (touches p) i.pages p (n + length gone) gone kept (last_place (touches p) (all_placed kept)) some behind
    refl (touched p some) (go.holds.table.places p some ∙ ap (place_of p) (counts i b bs go)) in
    record {
      limits = go.holds.limits;
      numbers = omega arith;
      live = (go.holds.live.0, live.1);
      news = omega arith;
      ends = λ is_open works. ends_kept i.m i.f i.number b bs go.more (subst (IsCleanLast i.m i.f i.number) go.bytes (go.holds.ends is_open go.works));
      every = λ _. counted;
      left = λ failed. (let no : true ≡ false = sym failed ∙ go.works in absurd cc);
      numbered = subst (λ (fs : List Frame). AreFrom (first_number fs) fs) (sym counted) (from_own (n + length gone) kept behind);
      follows = go.holds.follows ∙ ap next_of (counts i b bs go) ∙ next_kept i.m pages gone kept set (stood i b bs go) ∙ ap next_of (sym counted);
      listed = lines ∙ ap (filter (λ (e : FrameAt). not (e.segment == i.number)))
          (go.holds.listed ∙ ap (λ (l : List (List ℕ)). map (λ e. e.0) (filter (λ e. is_before_next i.next e.1.number) (entries i.number l))) go.bytes)
          ∙ lines_kept i.number i.next b bs;
      count = go.holds.count;
      linked = subst AreLinked (sym counted) (linked_by (n + length gone) kept behind
          (links_by n gone kept (low_by _ _ _ gone kept live.0.whole.each) are was));
      stands = subst (λ (fs : List Frame). IsStanding i.m fs pages) (sym counted) (standing_kept i.m pages gone kept set (stood i b bs go));
      table = record {
        places = λ p some. places p some ∙ ap (place_of p) (sym counted);
        bases = λ p some. table_by (λ e. e.base) (sets p) i.pages p (n + length gone) gone kept (last_place (sets p) (all_placed kept)) some
            behind refl (set p some)
            (go.holds.table.bases p some ∙ ap (base_of p) (counts i b bs go)) ∙ ap (base_of p) (sym counted);
        walks = λ p some. walk_by i.pages p (n + length gone) gone kept (last_place (sets p) (all_placed kept)) some behind refl (set p some)
            (places p some) (go.holds.table.walks p some ∙ ap (walk_to p) (counts i b bs go)) ∙ ap (walk_to p) (sym counted);
      };
    }
