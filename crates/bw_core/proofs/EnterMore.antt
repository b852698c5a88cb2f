-- What entering a group asks of its growths, and the store after it.

use Rattle.std.proofs.Common.{◌≡◌, ℕ, ◌+◌, ◌<◌, ◌≤◌, Bool, true, false, Option, Some, None, Result, List, [], ◌∷◌, ◌++◌}
use Rattle.std.proofs.Common.{length, refl, sym, ap, ◌∙◌, subst, arith, if◌then◌else◌, length-append}
use Rattle.std.specs.Prelude.{nat_le, IfErr, OnOk, OnErr, MatchOption}
use Rattle.std.specs.List.{AllByRecursion as All, fold}
use Rattle.bw_record.specs.Lawful.{IsOp}
use Rattle.bw_codec.specs.Grammar.{IsBlock, body_bytes}
use Rattle.bw_record.specs.declared.record.Record.{Record}
use Rattle.bw_record.specs.declared.leaf.Leaf.{Leaf}
use Rattle.bw_record.specs.declared.block.Place.{Place}
use Rattle.bw_record.specs.declared.block.Block.{Block}
use Rattle.bw_record.specs.declared.block.Block.TheVariants.{Delta, Split}
use Rattle.bw_page.specs.declared.fault.ApplyError.{ApplyError}
use Rattle.bw_page.specs.declared.fault.ApplyError.TheVariants as apply
use Rattle.bw_page.specs.Batch.{AreHere, SomeIsSpent}
use Rattle.bw_page.specs.Leaves.{directed_at, pages, HasPages}
use Rattle.bw_leaf.specs.SplitRule.{upper_of}
use Rattle.bw_page.specs.Seats.{is_among}
use Rattle.bw_page.specs.Shown.{Shown}
use Rattle.bw_buffer.specs.Filling.{Filling, with_all, size_of}
use Rattle.bw_ring.specs.Marks.{marked}
use Rattle.bw_ring.specs.Ends.{Ring}
use Rattle.bw_history.specs.declared.entry.Entry.{Entry}
use Rattle.std.proofs.lemmas.Grind.{fold-append}
use Rattle.bw_buffer.specs.Joining.{joined, added}
use Rattle.bw_making.specs.declared.draft.Row.{Row}
use Rattle.bw_making.specs.declared.draft.Draft.{Draft}
use Rattle.bw_making.specs.Adding.{Drawn, back_in, blocks_in, blocks_all, drawn_by, here_for, result_of}
use Rattle.bw_core.specs.Drafting.{IsDraft, drawn_behind}
use Rattle.bw_making.specs.Drafting.{AreIn, set_row}
use Rattle.bw_core.specs.Fitting.{Fits, drawn_of, group_blocks}
use Rattle.bw_history.specs.History.{entered}
use Rattle.bw_core.specs.Kept.{Kept, Filed, IsSound}
use Rattle.bw_making.specs.Overlay.{is_made}
use Rattle.bw_terms.specs.Told.{fault_of_apply}
use Rattle.bw_core.specs.Taken.{taken_all}
use Rattle.bw_terms.specs.declared.fault.StoreFault.{StoreFault}
use Rattle.bw_core.specs.Taking.{GroupLeaves, IsUnplanned, IsWanting, MakesRoom, Works}
use Rattle.bw_core.proofs.Planned.{entered_or_not}
use Rattle.bw_core.proofs.Drafts.{items_marked, leaves_all, made_all}
use Rattle.bw_core.proofs.GroupMore.{Lawful, rows_in, rows_set, rows_evicted, length_rows, fresh_fits, spent_pages, taken_is}
use Rattle.bw_core.proofs.GroupMore.{taken_all_sound}

-- the records of a sound store are lawful where there is a number for each page that they make
pub lawful_of : (s : Kept) (group : List Record) → IsSound s → HasPages s.filed.m s.filed.leaves group → All IsOp group
    → Lawful s.filed.m (drawn_of s) group
lawful_of s group h room ops = record {
  some = (let l = h.log.holds.limits in let p = h.pairs in omega arith);
  leaves = h.grown.stands.lawful;
  room = room;
  ops = ops;
}

some_in : (m : ℕ) (d : Drawn) (r : Record) → 1 ≤ length (blocks_in m d r)
some_in m d r =
    elim (nat_le (length (result_of d.leaves r).pairs) m) as
    (λ b. 1 ≤ length (if b then Delta (directed_at d.leaves r) (back_in d r) (r ∷ []) ∷ []
    else Delta (directed_at d.leaves r) (back_in d r) (r ∷ []) ∷ Split (directed_at d.leaves r) (here_for d.frame (directed_at d.leaves r))
    (upper_of m (length d.leaves + 1) (result_of d.leaves r)) ∷ [])) [ true ↦ omega arith | false ↦ omega arith ]

pub some_blocks : (m : ℕ) (d : Drawn) (rs : List Record) → 1 ≤ length rs → 1 ≤ length (blocks_all m d rs)
some_blocks m d [] some = absurd (omega arith)
some_blocks m d (r ∷ rs) some =
    (let one = some_in m d r in let long = length-append (blocks_in m d r) (blocks_all m (drawn_by m d r) rs) in omega arith)

module _ (s : Kept) (group : List Record) (d : Draft) (h : IsSound s) (ops : All IsOp group) (is : IsDraft s group d) where
  lawful_now : Lawful s.filed.m (drawn_of s) group
  lawful_now = lawful_of s group h is.room ops

  pub rows_inside : (n : ℕ) (rows : List Row) → n ≡ length s.filed.leaves → rows ≡ d.rows.items → AreIn n rows
  rows_inside n rows count same =
      subst (λ (k : ℕ). AreIn k rows) (sym count)
      (subst (AreIn (length s.filed.leaves)) (sym (same ∙ is.rows)) (rows_in s.filed.m (drawn_of s) group lawful_now))

  pub rows_many : (rows : List Row) → rows ≡ d.rows.items → length rows ≡ length group
  rows_many rows same = ap length (same ∙ is.rows) ∙ length_rows s.filed.m (drawn_of s) group

  pub blocks_some : (blocks : List Block) → blocks ≡ d.blocks.items → 1 ≤ length group → 1 ≤ length blocks
  blocks_some blocks same some = subst (λ (bs : List Block). 1 ≤ length bs) (sym (same ∙ is.blocks)) (some_blocks s.filed.m (drawn_of s) group some)

  pub blocks_fit : (blocks : List Block) → blocks ≡ d.blocks.items → size_of (with_all s.making blocks) ≤ s.making.limit
  blocks_fit blocks same = subst (λ (bs : List Block). size_of (with_all s.making bs) ≤ s.making.limit) (sym (same ∙ is.blocks)) is.fits

  pub blocks_lawful_now : (blocks : List Block) → blocks ≡ d.blocks.items → All (IsBlock 32) blocks
  blocks_lawful_now blocks same = subst (All (IsBlock 32)) (sym same) is.lawful

  frame_is : (drawn_behind s group).frame.blocks ≡ (with_all s.making (group_blocks s group)).blocks
  frame_is = frame_all s.filed.m (drawn_of s) group
    where
      frame_all : (m : ℕ) (d : Drawn) (rs : List Record) → (fold (drawn_by m) d rs).frame.blocks ≡ added d.frame.blocks (blocks_all m d rs)
      frame_all m d [] = refl
      frame_all m d (r ∷ rs) =
          frame_all m (drawn_by m d r) rs
          ∙ sym (fold-append joined d.frame.blocks (blocks_in m d r) (blocks_all m (drawn_by m d r) rs))

  making_blocks : (making : Filling) (blocks : List Block) → making ≡ with_all s.making blocks → blocks ≡ d.blocks.items
      → making.blocks ≡ (drawn_behind s group).frame.blocks
  making_blocks making blocks made same =
      ap (λ (b : Filling). b.blocks) made ∙ ap (λ (bs : List Block). (with_all s.making bs).blocks) (same ∙ is.blocks) ∙ sym frame_is

  leaves_is : (leaves : List Leaf) → leaves ≡ pages s.filed.m s.filed.leaves group → leaves ≡ (drawn_behind s group).leaves
  leaves_is leaves e = e ∙ sym (leaves_all s.filed.m (drawn_of s) group)

  -- a page that is evicted is not made
  pub evicted_now : (evicted : List ℕ) (q : ℕ) (making : Filling) (blocks : List Block)
      → AreHere (record { m = s.filed.m; leaves = s.filed.leaves; evicted = evicted }) group
      → ((p : ℕ) → length s.filed.leaves < p → is_among p evicted ≡ false) → is_among q evicted ≡ true → is_made q s.making.blocks ≡ false
      → making ≡ with_all s.making blocks → blocks ≡ d.blocks.items → is_made q making.blocks ≡ false
  evicted_now evicted q making blocks here beyond there apart made same =
      ap (is_made q) (making_blocks making blocks made same)
      ∙ rows_evicted s.filed.m (drawn_of s) group evicted q lawful_now here beyond there apart

  -- the store after it
  pub entered_all : (lane : ℕ) (rings rs : List Ring) (entries es : List Entry) (filed : Filed) (newest ps : List Place) (rows : List Row) (making : Filling)
      (blocks : List Block) → rings ≡ rs → rs ≡ s.rings → entries ≡ es ++ entered lane (marked group) → es ≡ s.entries
      → filed ≡ record s.filed { leaves = pages s.filed.m s.filed.leaves group } → newest ≡ fold set_row ps rows → ps ≡ s.newest → rows ≡ d.rows.items
      → making ≡ with_all s.making blocks → blocks ≡ d.blocks.items
      → record s { rings = rings; entries = entries; filed = filed; newest = newest; making = making } ≡ taken_all s lane (marked group)
  entered_all lane rings rs entries es filed newest ps rows making blocks e1 e2 e3 e4 e5 e6 e7 e8 e9 e10 =
      let places : newest ≡ (drawn_behind s group).newest =
      e6 ∙ ap (λ (l : List Place). fold set_row l rows) e7 ∙ ap (fold set_row s.newest) (e8 ∙ is.rows) ∙ rows_set s.filed.m (drawn_of s) group in
      let put : making ≡ with_all s.making (group_blocks s group) = e9 ∙ ap (with_all s.making) (e10 ∙ is.blocks) in
      let history : entries ≡ s.entries ++ entered lane (marked group) = e3 ∙ ap (λ (l : List Entry). l ++ entered lane (marked group)) e4 in
      let paged : filed ≡ record s.filed { leaves = (drawn_behind s group).leaves } =
      e5 ∙ ap (λ (ls : List Leaf). record s.filed { leaves = ls }) (sym (leaves_all s.filed.m (drawn_of s) group)) in
      ap (λ (l : List Ring). record s { rings = l; entries = entries; filed = filed; newest = newest; making = making }) (e1 ∙ e2)
      ∙ ap (λ (l : List Entry). record s { entries = l; filed = filed; newest = newest; making = making }) history
      ∙ ap (λ (f : Filed). record s { entries = s.entries ++ entered lane (marked group); filed = f; newest = newest; making = making }) paged
      ∙ ap (λ (l : List Place). record s {
        entries = s.entries ++ entered lane (marked group);
        filed = record s.filed { leaves = (drawn_behind s group).leaves };
        newest = l;
        making = making;
      }) places
      ∙ ap (λ (b : Filling). record s {
        entries = s.entries ++ entered lane (marked group);
        filed = record s.filed { leaves = (drawn_behind s group).leaves };
        newest = (drawn_behind s group).newest;
        making = b;
      }) put
      ∙ ap (λ (rs : List Record). record s {
        entries = s.entries ++ entered lane (marked group);
        filed = record s.filed { leaves = (drawn_behind s rs).leaves };
        newest = (drawn_behind s rs).newest;
        making = with_all s.making (group_blocks s rs);
      }) (sym (items_marked group))
      ∙ sym (taken_is s lane (marked group))

  pub all_sound : (lane : ℕ) → s.log.is_failed ≡ false → s.log.next ≡ Some s.making.frame → lane < length s.rings → IsSound (taken_all s lane (marked group))
  all_sound lane works next inside =
      taken_all_sound s lane (marked group) h works next
      (subst (All IsOp) (sym (items_marked group)) ops)
      (subst (HasPages s.filed.m s.filed.leaves) (sym (items_marked group)) is.room) inside
      (subst (λ (b : Filling). size_of b ≤ s.making.limit)
      (sym (made_all s lane (marked group) ∙ ap (λ (rs : List Record). with_all s.making (group_blocks s rs)) (items_marked group))) is.fits)

-- why the pages could not take it
pub wanting_of : (s : Kept) (f : Shown) (group : List Record) (error : ApplyError) → f.m ≡ s.filed.m → f.leaves ≡ s.filed.leaves
    → (error ≡ apply.Spent → SomeIsSpent f group) → IsWanting s group (fault_of_apply error)
wanting_of s f group apply.NoMemory pairs leaves spent = tt
wanting_of s f group apply.Spent pairs leaves spent = spent_pages s f group pairs leaves (spent refl)

abbrev pub filed_with : ℕ → List Leaf → Filed
filed_with m leaves = record { m = m; leaves = leaves }

-- if a frame was appended before, any group has room
pub fresh_room : (s : Kept) (lane : ℕ) (group : List Record) → IsSound s → s.log.is_failed ≡ false → s.log.next ≡ Some s.making.frame → All IsOp group
    → HasPages s.filed.m s.filed.leaves group → lane < length s.rings → s.making.blocks ≡ [] → length group ≤ 4 → Fits s group
fresh_room s lane group h works next ops room inside empty few =
    let none = ap (λ (bs : List Block). length (body_bytes bs)) empty in
    let zero_bytes : length (body_bytes []) ≡ 0 = refl in
    fresh_fits s lane 0 group h works next ops room inside (omega arith) (omega arith)

-- ---- a take of several

pub draft_some : (s : Kept) (group records : List Record) (o : Option Draft) (d : Draft) → records ≡ group → o ≡ Some d
    → MatchOption o (Fits s records → ⊥) (IsDraft s records) → IsDraft s group d
draft_some s group records o d same is m =
    subst (λ (rs : List Record). IsDraft s rs d) same (subst (λ (x : Option Draft). MatchOption x (Fits s records → ⊥) (IsDraft s records)) is m)

pub draft_none : (s : Kept) (group records : List Record) (o : Option Draft) → records ≡ group → o ≡ None
    → MatchOption o (Fits s records → ⊥) (IsDraft s records) → Fits s group → ⊥
draft_none s group records o same is m fits =
    subst (λ (x : Option Draft). MatchOption x (Fits s records → ⊥) (IsDraft s records)) is m (subst (Fits s) (sym same) fits)

-- a group that was planned and then entered, after a frame that was appended, or not
pub drafted_left : (lane : ℕ) (away : ℕ → Bool) (old drawn middle new : Kept) (group records : List Record) (o : Option Draft) (d : Draft)
    (r : Result (Unit {0}) StoreFault)
    → (1 ≤ length group) × (length group ≤ 4) → Works old → MakesRoom group old drawn → Works drawn → middle ≡ drawn → records ≡ group → o ≡ Some d
    → MatchOption o (Fits drawn records → ⊥) (IsDraft drawn records) → OnOk r (new ≡ taken_all middle lane (marked group)) → OnErr r (new ≡ middle)
    → IfErr r (IsWanting middle group) → GroupLeaves lane away group old r new
drafted_left lane away old drawn middle new group records o d r few was may works same of is m ok un wants =
    let draft = draft_some drawn group records o d of is m in
    entered_or_not lane away old middle new group r few was (subst (MakesRoom group old) (sym same) may)
    (subst (λ (s : Kept). Fits s group) (sym same) draft.fits)
    (ap (λ (s : Kept). s.log.is_failed) same ∙ works) ok un wants

pub unplanned_as : (s : Kept) (group records : List Record) (cause : StoreFault) → records ≡ group → IsUnplanned s records cause → IsUnplanned s group cause
unplanned_as s group records cause same w = subst (λ (rs : List Record). IsUnplanned s rs cause) same w
