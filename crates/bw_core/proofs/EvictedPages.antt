-- A page that the frame in the making neither makes nor cuts is in the log, and the records of that frame lead from there to it.

use Rattle.std.proofs.Common.{Ok, ◌≡◌, ℕ, zero, suc, ◌+◌, ◌-◌, ◌<◌, ◌≤◌, inl, inr, Bool, true, false, Option, Some, None, Result, Err, List, [], ◌∷◌}
use Rattle.std.proofs.Common.{length, refl, sym, ap, ◌∙◌, subst, arith, if◌then◌else◌}
use Rattle.std.specs.Prelude.{◌==◌, ◌||◌, ◌&&◌, nat_le, not, is_some, IsTrue, IsErrOf, IfOk}
use Rattle.std.specs.List.{AllByRecursion as All, fold, list_any, slice_get}
use Rattle.std.proofs.lemmas.Bool.{ne_eqb, eq-eqb, eqb-true, leb-true, leb-false}
use Rattle.std.proofs.lemmas.Grind.{fold-append}
use Rattle.std.proofs.lemmas.List.Folds.{list_any-append}
use Rattle.bw_record.specs.Keys.{ascends}
use Rattle.bw_codec.specs.Grammar.{IsBase}
use Rattle.bw_record.specs.Record.{key_of}
use Rattle.bw_record.specs.Touch.{touches}
use Rattle.bw_record.specs.declared.record.Record.{Record}
use Rattle.bw_record.specs.declared.leaf.Leaf.{Leaf}
use Rattle.bw_record.specs.declared.block.Place.{Place}
use Rattle.bw_record.specs.declared.block.Block.{Block}
use Rattle.bw_record.specs.declared.block.Block.TheVariants.{Delta, Split}
use Rattle.bw_record.specs.declared.block.Frame.{Frame}
use Rattle.std.specs.FinMap as finite
use Rattle.std.specs.FinMap.Entries.{find}
use Rattle.bw_leaf.specs.Changed.{Bytes, Map, order, all_changed}
use Rattle.bw_page.specs.Leaves.{home, plain, leaf_at, directed_at}
use Rattle.bw_leaf.specs.SplitRule.{upper_of}
use Rattle.bw_page.specs.Seats.{is_among}
use Rattle.bw_page.specs.Shown.{Shown, is_evicted_page, leaf_here}
use Rattle.bw_leaf.specs.Forwards.{after, content, blocks_of}
use Rattle.bw_page.specs.Standing.{Stand}
use Rattle.bw_page.proofs.Indexed.{home_within}
use Rattle.bw_page.proofs.Law.{get-union}
use Rattle.bw_page.proofs.OneStanding.{untouched}
use Rattle.bw_page.proofs.PageByPage.{home_there}
use Rattle.bw_buffer.specs.Filling.{frame_of}
use Rattle.bw_buffer.specs.Joining.{added}
use Rattle.bw_log.specs.Contents as logs
use Rattle.bw_log.specs.declared.fault.LogFault.{LogFault}
use Rattle.bw_log.specs.declared.fault.LogFault.TheVariants as log
use Rattle.bw_log.specs.Places.{placed, all_placed, later, last_place, place_of}
use Rattle.bw_log.specs.Reads.{IsPage, StopsAt}
use Rattle.bw_log.proofs.Walks.{content_push}
use Rattle.bw_terms.specs.declared.fault.StoreFault.{StoreFault}
use Rattle.bw_terms.specs.declared.fault.StoreFault.TheVariants.{NoPage}
use Rattle.bw_making.specs.Adding.{blocks_for, result_of}
use Rattle.bw_history.specs.Entries.{records}
use Rattle.bw_core.specs.Kept.{Kept, IsSound}
use Rattle.bw_terms.specs.Told.{fault_of}
use Rattle.bw_core.specs.Reading.{leaves_now, ReadLeaves, with_log}
use Rattle.bw_making.specs.Share.{ops_at}
use Rattle.bw_making.specs.Overlay.{makes, is_made}
use Rattle.bw_leaf.specs.Words.{told_by, records_word, value_on}
use Rattle.bw_leaf.specs.declared.words.Word.{Word}
use Rattle.bw_leaf.proofs.Wording.{records_tell}
use Rattle.bw_log.proofs.Valued.{page_rises}
use Rattle.bw_log.proofs.Walked.{page_set}
use Rattle.bw_making.proofs.Joins.{added_made}
use Rattle.bw_making.proofs.OverlaySteps.{over_overlay, never_made}
use Rattle.bw_making.proofs.Placing.{placed_push}

-- ---- a page in the log

leaf_there : (n : ℕ) (leaves : List Leaf) → n < length leaves → slice_get leaves n ≡ None → ⊥
leaf_there n [] h e = absurd (omega arith)
leaf_there zero (l ∷ ls) h e = absurd cc
leaf_there (suc n) (l ∷ ls) h e = leaf_there n ls (omega arith) e

page_there : (p : ℕ) (leaves : List Leaf) → 1 ≤ p → p ≤ length leaves → leaf_at p leaves ≡ None → ⊥
page_there zero leaves from to e = absurd (omega arith)
page_there (suc n) leaves from to e = leaf_there n leaves (omega arith) e

-- a page that frames set is one of theirs
set_within : (m : ℕ) (frames : List Frame) (leaves : List Leaf) (p : ℕ) → Stand m frames leaves → (content p (blocks_of frames) ≡ None → ⊥)
    → p ≤ length leaves
set_within m frames leaves p stand set =
    elim (nat_le p (length leaves)) as (λ b. nat_le p (length leaves) ≡ b → p ≤ length leaves) [
      | true ↦ λ e. leb-true _ _ e
      | false ↦ λ e. (let beyond = leb-false _ _ e in absurd (set (untouched p None (blocks_of frames) (stand.all p (omega arith)))))
    ] refl

module _ (s : Kept) (h : IsSound s) (p : ℕ) (from : 1 ≤ p) (within : p ≤ length s.filed.leaves) (apart : is_made p s.making.blocks ≡ false) where
  by_making : (was : Option Leaf) → content p (blocks_of (logs.counted s.log)) ≡ was → leaf_at p s.filed.leaves ≡ fold (after p) was s.making.blocks
  by_making was read =
      sym (h.grown.stands.each p from within)
      ∙ content_push p (logs.counted s.log) (frame_of s.making)
      ∙ ap (λ (w : Option Leaf). fold (after p) w s.making.blocks) read

  pub evicted_page : (below : Leaf) → content p (blocks_of (logs.counted s.log)) ≡ Some below
      → leaf_at p s.filed.leaves ≡ Some (all_changed (ops_at p s.making.blocks) below)
  evicted_page below read = by_making (Some below) read ∙ over_overlay p below s.making.blocks apart

  set_before : content p (blocks_of (logs.counted s.log)) ≡ None → ⊥
  set_before none = page_there p s.filed.leaves from within (by_making None none ∙ never_made p s.making.blocks apart)

  pub on_log : IsPage s.log p
  on_log = elim (h.log.holds.stands) [
    | inl nothing ↦ absurd (set_before (ap (λ (fs : List Frame). content p (blocks_of fs)) nothing.0))
    | inr standing ↦ (
        let low = set_within (s.log.m) (logs.counted s.log) standing.0 p standing.1 set_before in
        let many = standing.2 in
        (from, omega arith))
  ]

  -- a key has the value that the newest record of the frame in the making says, or that of the log
  pub evicted_value : (k : Bytes) → value_on k (leaf_at p s.filed.leaves)
      ≡ told_by (records_word k (ops_at p s.making.blocks)) (value_on k (content p (blocks_of (logs.counted s.log))))
  evicted_value k =
      let log = on_log in
      let below = page_set s.log p h.log log.0 log.1 in
      let tells = records_tell k (ops_at p s.making.blocks) below.0 (page_rises s.log p below.0 h.log below.1) in
      ap (value_on k) (evicted_page below.0 below.1) ∙ tells.value
      ∙ ap (λ (w : Option Leaf). told_by (records_word k (ops_at p s.making.blocks)) (value_on k w)) (sym below.1)

  -- the value that the page tells, by what these records say
  pub told_value : (k : Bytes) (word : Word) → word ≡ records_word k (ops_at p s.making.blocks)
      → told_by word (value_on k (content p (blocks_of (logs.counted s.log)))) ≡ value_on k (leaf_at p s.filed.leaves)
  told_value k word said =
      ap (λ (w : Word). told_by w (value_on k (content p (blocks_of (logs.counted s.log))))) said
      ∙ sym (evicted_value k)

-- ---- where a page is

pub never_none : (s : Kept) → IsSound s → (p : ℕ) → 1 ≤ p → p ≤ length s.filed.leaves → leaf_at p (leaves_now s) ≡ None → ⊥
never_none s h p from to none = page_there p s.filed.leaves from to (ap (leaf_at p) h.leaves ∙ none)

some_there : (p : ℕ) (leaves : List Leaf) → 1 ≤ p → p ≤ length leaves → is_some (leaf_at p leaves) ≡ true
some_there p leaves from to =
    elim (leaf_at p leaves) as (λ o. leaf_at p leaves ≡ o → is_some o ≡ true) [
      | None ↦ λ none. absurd (page_there p leaves from to none)
      | Some leaf ↦ λ some. refl
    ] refl

-- a page is in memory or evicted
pub here_or_evicted : (f : Shown) (p : ℕ) (here : Bool) → here ≡ is_some (leaf_here p f) → 1 ≤ p → p ≤ length f.leaves → here ≡ not (is_evicted_page p f)
here_or_evicted f p here is from to =
    is ∙ elim (is_evicted_page p f) as (λ b. is_some (if b then None else leaf_at p f.leaves) ≡ not b) [ true ↦ refl | false ↦ some_there p f.leaves from to ]

pub none_evicted : (f : Shown) (p : ℕ) (o : Option Leaf) → leaf_here p f ≡ o → o ≡ None → 1 ≤ p → p ≤ length f.leaves → is_evicted_page p f ≡ true
none_evicted f p o is none from to =
    (let gone = here_or_evicted f p false (sym (ap (λ (x : Option Leaf). is_some x) (is ∙ none))) from to in
    elim (is_evicted_page p f) as (λ b. false ≡ not b → b ≡ true) [ true ↦ λ e. refl | false ↦ λ e. absurd cc ] gone)

pub kept_apart : (evicted made : Bool) → made ≡ true → false ≡ (not evicted && not made)
kept_apart true made is = refl
kept_apart false made is = (rw is refl)

pub was_evicted : {A : Type 0} (b : Bool) → b ≡ true → b ≡ false → A
was_evicted b sure not = absurd cc

-- a page more is evicted
pub evicted_more : (old new : Shown) (page : ℕ) (blocks : List Block)
    → ((p : ℕ) → is_evicted_page p new ≡ (if p == page then true else is_evicted_page p old))
    → ((p : ℕ) → is_evicted_page p old ≡ true → is_made p blocks ≡ false)
    → is_made page blocks ≡ false → (p : ℕ) → is_evicted_page p new ≡ true → is_made p blocks ≡ false
evicted_more old new page blocks step logged apart p evicted =
    elim (p == page) as (λ b. (p == page) ≡ b → (if b then true else is_evicted_page p old) ≡ true → is_made p blocks ≡ false) [
      | true ↦ λ same e. (let is = eqb-true p page same in ap (λ (q : ℕ). is_made q blocks) is ∙ apart)
      | false ↦ λ other e. logged p e
    ] refl (sym (step p) ∙ evicted)

pub evicted_less : (old new : Shown) (page : ℕ) (blocks : List Block)
    → ((p : ℕ) → is_evicted_page p new ≡ (if p == page then false else is_evicted_page p old))
    → ((p : ℕ) → is_evicted_page p old ≡ true → is_made p blocks ≡ false)
    → (p : ℕ) → is_evicted_page p new ≡ true → is_made p blocks ≡ false
evicted_less old new page blocks step logged p evicted =
    elim (p == page) as (λ b. (if b then false else is_evicted_page p old) ≡ true → is_made p blocks ≡ false) [
      | true ↦ λ e. absurd cc
      | false ↦ λ e. logged p e
    ] (sym (step p) ∙ evicted)

-- ---- a leaf and its value

leaf_lawful : (m : ℕ) (leaves : List Leaf) (p : ℕ) (leaf : Leaf) → All (IsBase m) leaves → leaf_at p leaves ≡ Some leaf → IsBase m leaf
leaf_lawful m leaves zero leaf h e = absurd cc
leaf_lawful m [] (suc n) leaf h e = absurd cc
leaf_lawful m (l ∷ ls) (suc zero) leaf h e = (let same : l ≡ leaf = cc in subst (IsBase m) same h.0)
leaf_lawful m (l ∷ ls) (suc (suc n)) leaf h e = leaf_lawful m ls (suc n) leaf h.1 e

pub leaf_ascends : (s : Kept) → IsSound s → (p : ℕ) (leaf : Leaf) → leaf_at p s.filed.leaves ≡ Some leaf → IsTrue (ascends leaf.pairs)
leaf_ascends s h p leaf e = (leaf_lawful s.filed.m s.filed.leaves p leaf h.grown.stands.lawful.each e).ascends

-- what a search in a page that is the home of a key finds is what the map has
pub value_is : (s : Kept) → IsSound s → (key : Bytes) (p : ℕ) (leaf : Leaf) → p ≡ (home key s.filed.leaves).page → leaf_at p s.filed.leaves ≡ Some leaf
    → {value : Option Bytes} → value ≡ find order key leaf.pairs → value ≡ finite.get (plain s.start (records s.entries)) key
value_is s h key p leaf at there found =
    let lawful = h.grown.stands.lawful in
    let home_is : Some (home key s.filed.leaves) ≡ Some leaf =
    sym (home_there s.filed.m s.filed.leaves key lawful) ∙ ap (λ (q : ℕ). leaf_at q s.filed.leaves) (sym at) ∙ there in
    let same : home key s.filed.leaves ≡ leaf = cc in
    found
    ∙ ap (λ (l : Leaf). find order key l.pairs) (sym same)
    ∙ sym (get-union s.filed.m key s.filed.leaves lawful)
    ∙ ap (λ (u : Map). finite.get u key) h.mapped

-- the value of a key, from what its page has
pub value_of_evicted_is : (s : Kept) → IsSound s → (key : Bytes) (p : ℕ) → p ≡ (home key s.filed.leaves).page → 1 ≤ p → p ≤ length s.filed.leaves
    → {value : Option Bytes} → value ≡ value_on key (leaf_at p s.filed.leaves) → value ≡ finite.get (plain s.start (records s.entries)) key
value_of_evicted_is s h key p at from to found =
    let there = some_leaf p s.filed.leaves from to in
    value_is s h key p there.0 at there.1 (found ∙ ap (value_on key) there.1)
  where
    some_leaf : (p : ℕ) (leaves : List Leaf) → 1 ≤ p → p ≤ length leaves → (leaf : Leaf) × (leaf_at p leaves ≡ Some leaf)
    some_leaf p leaves from to = leaf_there_of (leaf_at p leaves) (page_there p leaves from to)
      where
        leaf_there_of : (o : Option Leaf) → (o ≡ None → ⊥) → (leaf : Leaf) × (o ≡ Some leaf)
        leaf_there_of None none = absurd (none refl)
        leaf_there_of (Some leaf) none = (leaf, refl)

pub answer_is : (s : Kept) → IsSound s → (key : Bytes) (p : ℕ) → p ≡ (home key s.filed.leaves).page → (1 ≤ p) × (p ≤ length s.filed.leaves)
    → (r : Result (Option Bytes) StoreFault) → IfOk r (λ value. value ≡ value_on key (leaf_at p s.filed.leaves))
    → IfOk r (λ value. value ≡ finite.get (plain s.start (records s.entries)) key)
answer_is s h key p at within (Ok value) found = value_of_evicted_is s h key p at within.0 within.1 found
answer_is s h key p at within (Err fault) found = tt

pub read_no_page : (reads : ℕ → Type 0) (old new : Kept) (r : Result Leaf StoreFault) → ReadLeaves reads old r new → IsErrOf r NoPage → ⊥
read_no_page reads old new r left is = subst (λ (o : Result Leaf StoreFault). ReadLeaves reads old o new) is left

-- ---- a read that was refused

pub read_refused : (A : Type 0) (reads : ℕ → Type 0) (old : Kept) (new : logs.Contents) (fault : LogFault) → StopsAt reads old.log fault new
    → (fault ≡ log.NoPage → ⊥) → ReadLeaves {A = A} reads old (Err (fault_of fault)) (with_log old new)
read_refused A reads old new log.NoMemory stops there = ap (with_log old) stops
read_refused A reads old new log.BadConfig stops there = absurd stops
read_refused A reads old new log.NoSegment stops there = absurd stops
read_refused A reads old new (log.Device lease) stops there = stops
read_refused A reads old new log.Failed stops there = absurd stops
read_refused A reads old new log.Spent stops there = (ap (with_log old) stops.0, stops.1)
read_refused A reads old new log.NoPage stops there = absurd (there refl)

-- a page that is evicted is the log's
pub evicted_refused : (s : Kept) → IsSound s → (p : ℕ) → 1 ≤ p → p ≤ length s.filed.leaves → is_made p s.making.blocks ≡ false
    → (A : Type 0) (reads : ℕ → Type 0) (new : logs.Contents) (fault : LogFault) → StopsAt reads s.log fault new
    → (fault ≡ log.NoPage → IsPage s.log p → ⊥) → ReadLeaves {A = A} reads s (Err (fault_of fault)) (with_log s new)
evicted_refused s h p from within apart A reads new fault stops none =
    read_refused A reads s new fault stops (λ e. none e (on_log s h p from within apart))

-- ---- a page whose newest block stands elsewhere

-- the last place of blocks after one that stands in this frame is in this frame
place_stays : (p number i : ℕ) (was place : Place) (bs : List Block) → fold (later (touches p)) (Some was) (placed number i bs) ≡ Some place
    → was.frame ≡ number → place.frame ≡ number
place_stays p number i was place [] e at = (let same : was ≡ place = cc in ap (λ (x : Place). x.frame) (sym same) ∙ at)
place_stays p number i was place (b ∷ bs) e at =
    elim (touches p b) as (λ t. fold (later (touches p)) (if t then Some (record { frame = number; index = i }) else Some was) (placed number (i + 1) bs)
    ≡ Some place → place.frame ≡ number) [
      | true ↦ λ f. place_stays p number (i + 1) (record { frame = number; index = i }) place bs f refl
      | false ↦ λ f. place_stays p number (i + 1) was place bs f at
    ] e

place_inside : (p number i : ℕ) (was : Option Place) (place : Place) (bs : List Block) → fold (later (touches p)) was (placed number i bs) ≡ Some place
    → list_any (touches p) bs ≡ true → place.frame ≡ number
place_inside p number i was place [] e t = absurd cc
place_inside p number i was place (b ∷ bs) e t =
    elim (touches p b) as (λ x. fold (later (touches p)) (if x then Some (record { frame = number; index = i }) else was) (placed number (i + 1) bs)
    ≡ Some place → (x || list_any (touches p) bs) ≡ true → place.frame ≡ number) [
      | true ↦ λ f any. place_stays p number (i + 1) (record { frame = number; index = i }) place bs f refl
      | false ↦ λ f any. place_inside p number (i + 1) was place bs f any
    ] e t

-- the frame in the making has no block of it
pub stands_elsewhere : (s : Kept) → IsSound s → (p : ℕ) (place : Place) (frame : ℕ) → 1 ≤ p → slice_get s.newest (p - 1) ≡ Some place
    → frame ≡ s.making.frame → (place.frame == frame) ≡ false → list_any (touches p) s.making.blocks ≡ false
stands_elsewhere s h p place frame from at is apart =
    let last : fold (later (touches p)) (place_of p (logs.counted s.log)) (placed s.making.frame 0 s.making.blocks) ≡ Some place =
    sym (ap (last_place (touches p)) (placed_push (logs.counted s.log) (frame_of s.making))
    ∙ fold-append (later (touches p)) None (all_placed (logs.counted s.log)) (placed s.making.frame 0 s.making.blocks))
    ∙ sym (h.grown.each p from) ∙ at in
    elim (list_any (touches p) s.making.blocks) as (λ b. list_any (touches p) s.making.blocks ≡ b → b ≡ false) [
      | true ↦ λ e. (
          let same = place_inside p s.making.frame 0 (place_of p (logs.counted s.log)) place s.making.blocks last e ∙ sym is in
          let yes = eq-eqb place.frame frame same in absurd cc)
      | false ↦ λ e. refl
    ] refl

-- ---- a record more

pub page_within : (s : Kept) → IsSound s → (item : Record) (page : ℕ) → page ≡ directed_at s.filed.leaves item → (1 ≤ page) × (page ≤ length s.filed.leaves)
page_within s h item page is = (let range = home_within s.filed.m (key_of item) s.filed.leaves h.grown.stands.lawful in (omega arith, omega arith))

module _ (m : ℕ) (leaves : List Leaf) (back here : Place) (r : Record) (made : List Block) where
  apart_from : (evicted : List ℕ) (p q : ℕ) → is_among q evicted ≡ true → is_among p evicted ≡ false → (p == q) ≡ false
  apart_from evicted p q there not = ne_eqb p q (λ e. (let same = ap (λ (i : ℕ). is_among i evicted) e in absurd cc))

  pub evicted_entered : (evicted : List ℕ) (q : ℕ) → is_among q evicted ≡ true → is_among (directed_at leaves r) evicted ≡ false
      → is_among (length leaves + 1) evicted ≡ false → is_made q made ≡ false → is_made q (added made (blocks_for m leaves back here r)) ≡ false
  evicted_entered evicted q there not last apart =
      added_made q made (blocks_for m leaves back here r)
      ∙ list_any-append (makes q) made (blocks_for m leaves back here r)
      ∙ ap (λ (b : Bool). b || is_made q (blocks_for m leaves back here r)) apart
      ∙ elim (nat_le (length (result_of leaves r).pairs) m) as (λ b.
      is_made q (if b then Delta (directed_at leaves r) back (r ∷ []) ∷ [] else Delta (directed_at leaves r) back (r ∷ []) ∷ Split (directed_at leaves r) here
      (upper_of m (length leaves + 1) (result_of leaves r)) ∷ []) ≡ false) [
        | true ↦ refl
        | false ↦ rw (apart_from evicted (directed_at leaves r) q there not, apart_from evicted (length leaves + 1) q there last) refl
      ]
