-- The records of a group are planned one by one.

use Rattle.std.proofs.Common.{◌≡◌, ℕ, zero, suc, ◌+◌, ◌^◌, ◌<◌, ◌≤◌, Bool, true, false, Option, None, List, [], ◌∷◌, ◌++◌, length, take, drop, get_or}
use Rattle.std.proofs.Common.{refl, sym, ap, ◌∙◌, subst, arith, append_assoc, take-append-drop}
use Rattle.std.specs.Prelude.{IsTrue, ◌↔◌}
use Rattle.std.specs.List.{AllByRecursion as All, fold}
use Rattle.std.proofs.lemmas.List.{take_more}
use Rattle.std.proofs.Math.Seq.{take-length}
use Rattle.bw_record.specs.Lawful.{IsOp}
use Rattle.bw_codec.specs.Grammar.{IsBlock}
use Rattle.bw_record.specs.declared.record.Record.{Record}
use Rattle.bw_record.specs.declared.leaf.Leaf.{Leaf}
use Rattle.bw_record.specs.declared.block.Block.{Block}
use Rattle.bw_page.specs.declared.leaves.batch.Step.{Step}
use Rattle.bw_page.specs.Batch.{step_of, steps_of}
use Rattle.bw_page.specs.Leaves.{applied, pages, HasPage, HasPages}
use Rattle.bw_page.specs.Shown.{Shown, after_record, run}
use Rattle.bw_buffer.specs.Filling.{Filling, with_all, size_of}
use Rattle.bw_making.specs.declared.draft.Draft.{Draft}
use Rattle.bw_making.specs.Adding.{Drawn, blocks_in, blocks_all, drawn_by}
use Rattle.bw_core.specs.Drafting.{IsAhead, IsDraft, Stands, drawn_behind}
use Rattle.bw_making.specs.Drafting.{Added, open_in, place_in, records_in, row_in, rows_all}
use Rattle.bw_making.specs.declared.draft.Row.{Row}
use Rattle.bw_core.specs.Fitting.{Fits, drawn_of, group_blocks}
use Rattle.bw_core.specs.Kept.{Kept}
use Rattle.bw_core.proofs.Drafted.{making_is, row_there, few_before, ahead_next, stands_next}
use Rattle.bw_core.proofs.Drafts.{leaves_all, part_shorter}

pub step_at : (f : Shown) (rs : List Record) (at : ℕ) (item : Record) (step : Step) → at < length rs → item ≡ get_or rs at item
    → step ≡ get_or (steps_of f rs) at step → step ≡ step_of (run f (take at rs)) item
step_at f [] at item step lt is same = absurd (omega arith)
step_at f (r ∷ rs) zero item step lt is same = same ∙ ap (step_of f) (sym is)
step_at f (r ∷ rs) (suc at) item step lt is same = step_at (after_record f r) rs at item step (omega arith) is same

pub op_at : (rs : List Record) (at : ℕ) (item : Record) → at < length rs → item ≡ get_or rs at item → All IsOp rs → IsOp item
op_at [] at item lt is h = absurd (omega arith)
op_at (r ∷ rs) zero item lt is h = subst IsOp (sym is) h.0
op_at (r ∷ rs) (suc at) item lt is h = op_at rs at item (omega arith) is h.1

pub room_at : (m : ℕ) (leaves : List Leaf) (rs : List Record) (at : ℕ) (item : Record) → at < length rs → item ≡ get_or rs at item → HasPages m leaves rs
    → HasPage m (pages m leaves (take at rs)) item
room_at m leaves [] at item lt is h = absurd (omega arith)
room_at m leaves (r ∷ rs) zero item lt is h = subst (HasPage m leaves) (sym is) h.0
room_at m leaves (r ∷ rs) (suc at) item lt is h = room_at m (applied m leaves r) rs at item (omega arith) is h.1

pub length_steps : (f : Shown) (rs : List Record) → length (steps_of f rs) ≡ length rs
length_steps f [] = refl
length_steps f (r ∷ rs) = ap suc (length_steps (after_record f r) rs)

-- the blocks of the first records begin those of all
blocks_split : (m : ℕ) (d : Drawn) (xs ys : List Record) → blocks_all m d (xs ++ ys) ≡ blocks_all m d xs ++ blocks_all m (fold (drawn_by m) d xs) ys
blocks_split m d [] ys = refl
blocks_split m d (x ∷ xs) ys =
    ap (λ (bs : List Block). blocks_in m d x ++ bs) (blocks_split m (drawn_by m d x) xs ys)
    ∙ sym (append_assoc (blocks_in m d x) (blocks_all m (drawn_by m d x) xs) (blocks_all m (fold (drawn_by m) (drawn_by m d x) xs) ys))

pub part_fits : (s : Kept) (rs : List Record) (n : ℕ) → Fits s rs → size_of (with_all s.making (group_blocks s (take n rs))) ≤ s.making.limit
part_fits s rs n fits =
    let split : group_blocks s rs ≡ group_blocks s (take n rs) ++ blocks_all s.filed.m (drawn_behind s (take n rs)) (drop n rs) =
    ap (group_blocks s) (sym (take-append-drop n rs)) ∙ blocks_split s.filed.m (drawn_of s) (take n rs) (drop n rs) in
    let all = subst (λ (bs : List Block). size_of (with_all s.making bs) ≤ s.making.limit) split fits in
    let part = part_shorter s.making (group_blocks s (take n rs)) (blocks_all s.filed.m (drawn_behind s (take n rs)) (drop n rs)) in
    omega arith

module _ (s : Kept) (evicted : List ℕ) (rs : List Record) (at : ℕ) (item : Record) (inside : at < length rs) (is : item ≡ get_or rs at item) where
  abbrev shown : Shown
  shown = record { m = s.filed.m; leaves = s.filed.leaves; evicted = evicted }

  pages_are : pages s.filed.m s.filed.leaves (take at rs) ≡ (drawn_behind s (take at rs)).leaves
  pages_are = sym (leaves_all s.filed.m (drawn_of s) (take at rs))

  pub here_room : HasPages s.filed.m s.filed.leaves rs → HasPage s.filed.m (drawn_behind s (take at rs)).leaves item
  here_room h = subst (λ (ls : List Leaf). HasPage s.filed.m ls item) pages_are (room_at s.filed.m s.filed.leaves rs at item inside is h)

  pub step_is : (step : Step) (steps : List Step) → steps ≡ steps_of shown rs → step ≡ get_or steps at step
      → step ≡ step_of (record { m = s.filed.m; leaves = (drawn_behind s (take at rs)).leaves; evicted = evicted }) item
  step_is step steps all same =
      step_at shown rs at item step inside is (same ∙ ap (λ (l : List Step). get_or l at step) all)
      ∙ ap (λ (ls : List Leaf). step_of (record { m = s.filed.m; leaves = ls; evicted = evicted }) item) pages_are

  pub next_take : take (at + 1) rs ≡ take at rs ++ item ∷ []
  next_take = take_more rs at item inside ∙ ap (λ (x : Record). take at rs ++ x ∷ []) (sym is)

-- what a test for room says of a draft
pub draft_room : (s : Kept) (rs : List Record) (n : ℕ) (d : Draft) (slice : List Block) (b : Bool) → IsAhead s (take n rs) d → slice ≡ d.blocks.items
    → IsTrue b ↔ (size_of (with_all s.making slice) ≤ s.making.limit) → b ≡ true → size_of (with_all s.making (group_blocks s (take n rs))) ≤ s.making.limit
draft_room s rs n d slice b a same tests sure =
    subst (λ (bs : List Block). size_of (with_all s.making bs) ≤ s.making.limit) (same ∙ a.blocks) (tests.0 sure)

pub draft_full : (s : Kept) (rs : List Record) (n : ℕ) (d : Draft) (slice : List Block) (b : Bool) → IsAhead s (take n rs) d → slice ≡ d.blocks.items
    → IsTrue b ↔ (size_of (with_all s.making slice) ≤ s.making.limit) → b ≡ false → Fits s rs → ⊥
draft_full s rs n d slice b a same tests full fits =
    let there : b ≡ true = tests.1 (subst (λ (bs : List Block). size_of (with_all s.making bs) ≤ s.making.limit) (sym (same ∙ a.blocks))
    (part_fits s rs n fits)) in
    cc

-- all of the group is planned
pub draft_done : (s : Kept) (lane : ℕ) (rs : List Record) (n : ℕ) (d : Draft) → n ≡ length rs → HasPages s.filed.m s.filed.leaves rs
    → Stands s lane (take n rs) → IsAhead s (take n rs) d → IsDraft s rs d
draft_done s lane rs n d all room t a =
    let made = ap size_of (making_is s lane (take n rs)) in
    let limit = ap (λ (b : Filling). b.limit) (making_is s lane (take n rs)) in
    let few = t.fits in
    let fits : size_of (with_all s.making (group_blocks s (take n rs))) ≤ s.making.limit = omega arith in
    let whole : take n rs ≡ rs = ap (λ (k : ℕ). take k rs) all ∙ take-length rs in
    record {
      blocks = a.blocks ∙ ap (group_blocks s) whole;
      lawful = a.lawful;
      rows = a.rows ∙ ap (rows_all s.filed.m (drawn_of s)) whole;
      fits = subst (λ (xs : List Record). size_of (with_all s.making (group_blocks s xs)) ≤ s.making.limit) whole fits;
      room = room;
    }

-- none is, yet
pub ahead_none : (s : Kept) (d : Draft) → d.blocks.items ≡ [] → d.rows.items ≡ [] → d.count ≡ length s.making.blocks → IsAhead s [] d
ahead_none s d blocks rows count = record {
  blocks = blocks;
  lawful = subst (All (IsBlock 32)) (sym blocks) tt;
  rows = rows;
  count = count;
  places = λ p some top. ap (λ (ws : List Row). place_in ws s.newest p) rows;
  opens = λ p some top. ap (λ (ws : List Row). open_in ws s.making.blocks p) rows;
  records = λ p some top. ap (λ (ws : List Row). records_in ws s.making.blocks p) rows;
}

-- ---- one record more of a group, after those before it

module _ (s : Kept) (lane : ℕ) (evicted : List ℕ) (rs : List Record) (at : ℕ) (item : Record) (inside : at < length rs) (is : item ≡ get_or rs at item)
    (t : Stands s lane (take at rs)) (old : Draft) (a : IsAhead s (take at rs) old) (ops : All IsOp rs) (room : HasPages s.filed.m s.filed.leaves rs)
    (steps : List Step) (all : steps ≡ steps_of (record { m = s.filed.m; leaves = s.filed.leaves; evicted = evicted }) rs) (step : Step)
    (same : step ≡ get_or steps at step) where
  abbrev done : List Record
  done = take at rs

  this : step ≡ step_of (record { m = s.filed.m; leaves = (drawn_behind s done).leaves; evicted = evicted }) item
  this = step_is s evicted rs at item inside is step steps all same

  op_now : IsOp item
  op_now = op_at rs at item inside is ops

  room_now : HasPage s.filed.m (drawn_behind s done).leaves item
  room_now = here_room s evicted rs at item inside is room

  pub lay_inside : row_in old.rows.items step.page ≡ None → (1 ≤ step.page) × (step.page ≤ length s.newest)
  lay_inside = row_there s lane done t old old a item step.page step.upper op_now room_now (ap (λ (x : Step). x.page) this) (ap (λ (x : Step). x.upper) this)

  pub lay_few : old.count + 2 < 2 ^ 32
  lay_few = few_before s lane done t old old a item step.page step.upper op_now room_now (ap (λ (x : Step). x.page) this) (ap (λ (x : Step). x.upper) this)

  pub lay_ahead : (new : Draft) (upper : Option Leaf) → upper ≡ step.upper → Added old s.making s.newest item step.page upper new
      → IsAhead s (take (at + 1) rs) new
  lay_ahead new upper copied x =
      subst (λ (xs : List Record). IsAhead s xs new) (sym (next_take s evicted rs at item inside is))
      (ahead_next s lane done t old new a item step.page upper op_now room_now (ap (λ (y : Step). y.page) this) (copied ∙ ap (λ (y : Step). y.upper) this) x)

  pub lay_stands : lane < length s.rings → size_of (with_all s.making (group_blocks s (take (at + 1) rs))) ≤ s.making.limit → Stands s lane (take (at + 1) rs)
  lay_stands lane_in fits =
      let next = next_take s evicted rs at item inside is in
      subst (Stands s lane) (sym next)
      (stands_next s lane done t item op_now room_now lane_in
      (subst (λ (xs : List Record). size_of (with_all s.making (group_blocks s xs)) ≤ s.making.limit) next fits))
