-- A record that does not split its page: one Delta is all that it adds.

use Rattle.std.proofs.Common.{◌≡◌, ◌∙◌, ℕ, ◌-◌, ◌≤◌, Bool, true, false, Some, List, [], ◌∷◌, length, refl, sym, ap, subst, arith, append-nil}
use Rattle.std.specs.Prelude.{IsTrue, ◌↔◌}
use Rattle.std.specs.List.{slice_get}
use Rattle.std.proofs.lemmas.Bool.{le-leb}
use Rattle.bw_record.specs.Lawful.{IsOp}
use Rattle.bw_record.specs.declared.record.Record.{Record}
use Rattle.bw_record.specs.declared.leaf.Leaf.{Leaf}
use Rattle.bw_codec.specs.Grammar.{body_bytes}
use Rattle.bw_record.specs.declared.block.Place.{Place}
use Rattle.bw_record.specs.declared.block.Block.{Block}
use Rattle.bw_record.specs.declared.block.Block.TheVariants.{Delta}
use Rattle.bw_codec.proofs.Lengths.{length-delta}
use Rattle.bw_codec.proofs.Sizing.{largest_blocks}
use Rattle.bw_page.specs.Leaves.{directed_at, result_of}
use Rattle.bw_buffer.specs.Filling.{frame_of, size_of, with_all}
use Rattle.bw_buffer.proofs.Sizes.{pushed_size}
use Rattle.bw_making.specs.Adding.{blocks_for, here_for}
use Rattle.bw_making.specs.Filing.{FitsDelta}
use Rattle.bw_core.specs.Fitting.{Fits, back_for, group_blocks, here_at}
use Rattle.bw_core.specs.Kept.{Kept, IsSound}
use Rattle.bw_core.proofs.MayEnter.{Enters, enters_at}
use Rattle.bw_core.proofs.Planned.{back_at, fits_empty}

-- its blocks are that Delta
pub whole_blocks : (m : ℕ) (leaves : List Leaf) (back here : Place) (r : Record) → length (result_of leaves r).pairs ≤ m
    → Delta (directed_at leaves r) back (r ∷ []) ∷ [] ≡ blocks_for m leaves back here r
whole_blocks m leaves back here r whole = rw (le-leb (length (result_of leaves r).pairs) m whole) refl

pub delta_blocks : (m : ℕ) (leaves : List Leaf) (back here : Place) (r : Record) (page : ℕ) → page ≡ directed_at leaves r
    → length (result_of leaves r).pairs ≤ m → Delta page back (r ∷ []) ∷ [] ≡ blocks_for m leaves back here r
delta_blocks m leaves back here r page at whole = ap (λ (p : ℕ). Delta p back (r ∷ []) ∷ []) at ∙ whole_blocks m leaves back here r whole

pub enters_whole : {s : Kept} {item : Record} {back : Place} (page : ℕ) → IsSound s → s.log.next ≡ Some s.making.frame → IsOp item
    → page ≡ directed_at s.filed.leaves item → slice_get s.newest (page - 1) ≡ Some back → length (result_of s.filed.leaves item).pairs ≤ s.filed.m
    → FitsDelta s.making page item → Enters s item back (Delta page back (item ∷ []) ∷ [])
enters_whole {s} {item} {back} page sound next op at last whole fits =
    enters_at page sound next op at last (delta_blocks s.filed.m s.filed.leaves back (here_for (frame_of s.making) page) item page at whole) (fits back)

-- the block of its page before it is the last one
pub last_is_back : (s : Kept) (item : Record) (back : Place) → slice_get s.newest (directed_at s.filed.leaves item - 1) ≡ Some back → back ≡ back_for s item
last_is_back s item back last = sym (back_at s.newest (directed_at s.filed.leaves item - 1) back last)

-- ---- whether it fits

module _ (s : Kept) (item : Record) (page : ℕ) (at : page ≡ directed_at s.filed.leaves item) (whole : length (result_of s.filed.leaves item).pairs ≤ s.filed.m) where
  delta_group : Delta page (back_for s item) (item ∷ []) ∷ [] ≡ group_blocks s (item ∷ [])
  delta_group =
      delta_blocks s.filed.m s.filed.leaves (back_for s item) (here_at s item) item page at whole
      ∙ sym (append-nil (blocks_for s.filed.m s.filed.leaves (back_for s item) (here_at s item) item))

  pub delta_fits : FitsDelta s.making page item → Fits s (item ∷ [])
  delta_fits fits = subst (λ (bs : List Block). size_of (with_all s.making bs) ≤ s.making.limit) delta_group (fits (back_for s item))

  pub delta_full : {b : Bool} → ((back : Place) → IsTrue b ↔ (size_of (with_all s.making (Delta page back (item ∷ []) ∷ [])) ≤ s.making.limit))
      → b ≡ false → Fits s (item ∷ []) → ⊥
  delta_full {b} tests is fits =
      let there : b ≡ true = (tests (back_for s item)).1
      (subst (λ (bs : List Block). size_of (with_all s.making bs) ≤ s.making.limit) (sym delta_group) fits) in
      cc

-- an empty frame has room for it
delta_short : (page : ℕ) (back : Place) (item : Record) → IsOp item → length (body_bytes (Delta page back (item ∷ []) ∷ [])) ≤ 12000
delta_short page back item op =
    let first : Place = record { frame = 1; index = 0 } in
    let short = largest_blocks.delta 1 first item
    (record { changes = (omega arith, omega arith); links = record { frame = (omega arith, omega arith); index = omega arith }; count = (omega arith, omega arith); each = (op, tt) }) in
    let this = pushed_size [] (Delta page back (item ∷ [])) in
    let other = pushed_size [] (Delta 1 first (item ∷ [])) in
    let long = length-delta page back (item ∷ []) in
    let same = length-delta 1 first (item ∷ []) in
    omega arith

pub delta_in_empty : (s : Kept) (page : ℕ) (item : Record) → IsSound s → s.making.blocks ≡ [] → IsOp item → FitsDelta s.making page item
delta_in_empty s page item sound empty op = λ back. fits_empty s (Delta page back (item ∷ []) ∷ []) sound empty (delta_short page back item op)
