-- A record whose blocks fit may be entered.

use Rattle.std.proofs.Common.{◌≡◌, ℕ, ◌+◌, ◌-◌, ◌^◌, ◌<◌, ◌≤◌, true, false, Some, List}
use Rattle.std.proofs.Common.{[], ◌∷◌, ◌++◌, length, map, set, refl, sym, ap, ◌∙◌, subst, arith, if◌then◌else◌}
use Rattle.std.specs.Prelude.{nat_le}
use Rattle.std.specs.List.{AllByRecursion as All, slice_get}
use Rattle.bw_record.specs.Lawful.{IsOp}
use Rattle.bw_codec.specs.Grammar.{IsBlock}
use Rattle.bw_record.specs.declared.record.Record.{Record}
use Rattle.bw_record.specs.declared.block.Place.{Place}
use Rattle.bw_record.specs.declared.block.Block.{Block}
use Rattle.bw_record.specs.declared.block.Block.TheVariants.{Delta, Split}
use Rattle.bw_record.specs.declared.leaf.Leaf.{Leaf}
use Rattle.std.proofs.lemmas.Bool.{leb-true, leb-false}
use Rattle.bw_codec.proofs.Wider.{blocks_wider}
use Rattle.bw_page.specs.Leaves.{directed_at, applied, HasPage, AreLeaves}
use Rattle.bw_leaf.specs.SplitRule.{upper_of}
use Rattle.bw_page.specs.Shown.{Shown, IsSpent}
use Rattle.bw_page.proofs.Indexing.{count_fits}
use Rattle.bw_page.proofs.Indexed.{home_within}
use Rattle.bw_record.specs.Record.{key_of}
use Rattle.bw_buffer.specs.Filling.{Filling, frame_of, size_of, with_all}
use Rattle.bw_buffer.proofs.Holding.{few_blocks}
use Rattle.bw_buffer.proofs.Sizes.{added_longer}
use Rattle.bw_ring.specs.declared.lane.Lane.{Lane}
use Rattle.bw_ring.specs.Marks.{Marked}
use Rattle.bw_ring.specs.Ends.{Ring, ring_of_lane}
use Rattle.std.proofs.lemmas.List.{length-map}
use Rattle.bw_log.specs.Contents as logs
use Rattle.bw_log.proofs.Adding.{following_is}
use Rattle.bw_history.specs.declared.entry.Entry.{Entry}
use Rattle.bw_making.specs.Adding.{here_for, last_for, result_of, blocks_for, places_after, noted}
use Rattle.bw_making.specs.Filing.{AreOne}
use Rattle.bw_core.specs.Fitting.{here_at, last_at}
use Rattle.bw_core.specs.Taken.{taken}
use Rattle.bw_core.specs.Kept.{Kept, Filed, IsSound}
use Rattle.bw_core.proofs.Growing.{Takes, blocks_lawful}
use Rattle.bw_core.proofs.FramesBehind.{following_fits}
use Rattle.bw_core.proofs.RecordMore.{TakesOne, taken_sound}

pub record Enters (s : Kept) (item : Record) (back : Place) (blocks : List Block) : Type 0 where
  pub sound : IsSound s
  pub next : s.log.next ≡ Some s.making.frame
  pub op : IsOp item
  pub last : slice_get s.newest (directed_at s.filed.leaves item - 1) ≡ Some back
  pub made : blocks ≡ blocks_for s.filed.m s.filed.leaves back (here_at s item) item
  pub fits : size_of (with_all s.making blocks) ≤ s.making.limit

-- the pages, as if all were in memory
abbrev shown_of : Filed → Shown
shown_of f = record { m = f.m; leaves = f.leaves; evicted = [] }

pub enters_at : {s : Kept} {item : Record} {back : Place} {blocks : List Block} (page : ℕ) → IsSound s → s.log.next ≡ Some s.making.frame → IsOp item
    → page ≡ directed_at s.filed.leaves item
    → slice_get s.newest (page - 1) ≡ Some back → blocks ≡ blocks_for s.filed.m s.filed.leaves back (here_for (frame_of s.making) page) item
    → size_of (with_all s.making blocks) ≤ s.making.limit → Enters s item back blocks
enters_at {s} {item} {back} page sound next op at last made fits = record {
  sound = sound;
  next = next;
  op = op;
  last = subst (λ (p : ℕ). slice_get s.newest (p - 1) ≡ Some back) at last;
  made = made ∙ ap (λ (p : ℕ). blocks_for s.filed.m s.filed.leaves back (here_for (frame_of s.making) p) item) at;
  fits = fits;
}

-- what fits with more blocks fits without them
pub fits_now : (s : Kept) (blocks : List Block) → size_of (with_all s.making blocks) ≤ s.making.limit → size_of s.making ≤ s.making.limit
fits_now s blocks fits = (let longer = added_longer s.making.blocks blocks in omega arith)

few : (s : Kept) → IsSound s → size_of s.making ≤ s.making.limit → length s.making.blocks + 2 < 2 ^ 32
few s h fits = (let k = few_blocks s.making.blocks in let l = h.limit in let top = h.log.holds.limits.3 in omega arith)

limits : (s : Kept) → IsSound s → (4 ≤ s.filed.m) × (s.filed.m ≤ 32)
limits s h = (let p = h.pairs in let l = h.log.holds.limits in (omega arith, omega arith))

has_page : (f : Shown) (r : Record) → AreLeaves f.m f.leaves → (IsSpent f r → ⊥) → HasPage f.m f.leaves r
has_page f r a not over = (let n = count_fits f.m f.leaves a in
    elim (nat_le (2 ^ 32) (length f.leaves + 1)) as (λ b. nat_le (2 ^ 32) (length f.leaves + 1) ≡ b → length f.leaves + 1 < 2 ^ 32) [
      | true ↦ λ e. (let big = leb-true _ _ e in absurd (not (over, omega arith)))
      | false ↦ λ e. leb-false _ _ e
    ] refl)

takes_it : (s : Kept) (item : Record) (back : Place) (blocks : List Block) → Enters s item back blocks → (IsSpent (shown_of s.filed) item → ⊥)
    → Takes s.filed.m (logs.counted s.log) (frame_of s.making) s.filed.leaves s.newest back item
takes_it s item back blocks e not =
    let h = e.sound in
    let bound = following_fits (s.before + s.durable) s.making.frame (sym h.next ∙ e.next) in
    let number = following_is (s.before + s.durable) s.making.frame (sym h.next ∙ e.next) in
    let fits = fits_now s blocks e.fits in
    record {
      some = (limits s h).0;
      grown = h.grown;
      op = e.op;
      room = has_page (shown_of s.filed) item h.grown.stands.lawful not;
      last = e.last;
      number = (omega arith, bound);
      few = few s h fits;
    }

pub takes_one : (s : Kept) (writer : ℕ) (item : Record) (back : Place) (blocks : List Block) → Enters s item back blocks → (IsSpent (shown_of s.filed) item → ⊥)
    → s.log.is_failed ≡ false → writer < length s.rings → TakesOne s writer item back
takes_one s writer item back blocks e not works inside = record {
  sound = e.sound;
  takes = takes_it s item back blocks e not;
  number = following_is (s.before + s.durable) s.making.frame (sym e.sound.next ∙ e.next);
  inside = inside;
  works = works;
}

-- ---- what filing the blocks asks

module _ {s : Kept} {item : Record} {back : Place} {blocks : List Block} (e : Enters s item back blocks) where
  pub file_few : length s.making.blocks + 2 < 2 ^ 32
  file_few = few s e.sound (fits_now s blocks e.fits)

  pub file_page : (page : ℕ) → page ≡ directed_at s.filed.leaves item → (1 ≤ page) × (page ≤ length s.newest)
  file_page page is = (let w = home_within s.filed.m (key_of item) s.filed.leaves e.sound.grown.stands.lawful in let c = e.sound.grown.count
      in (omega arith, omega arith))

  pub file_one : (page : ℕ) → page ≡ directed_at s.filed.leaves item → AreOne page blocks
  file_one page is =
      subst (AreOne page) (sym e.made)
      (elim (nat_le (length (result_of s.filed.leaves item).pairs) s.filed.m) as
      (λ b. AreOne page (if b then Delta (directed_at s.filed.leaves item) back (item ∷ []) ∷ [] else Delta (directed_at s.filed.leaves item) back
      (item ∷ []) ∷ Split (directed_at s.filed.leaves item) (here_at s item)
      (upper_of s.filed.m (length s.filed.leaves + 1) (result_of s.filed.leaves item)) ∷ []))
      [ true ↦ (sym is, refl) | false ↦ ((sym is, refl), tt) ])

  pub file_lawful : (IsSpent (shown_of s.filed) item → ⊥) → All (IsBlock 32) blocks
  file_lawful not =
      subst (All (IsBlock 32)) (sym e.made) (blocks_wider s.filed.m 32 _ (limits s e.sound).1
      (blocks_lawful s.filed.m _ (frame_of s.making) s.filed.leaves s.newest back item (takes_it s item back blocks e not)))

-- the places noted are those after the record
pub noted_is : (m : ℕ) (leaves : List Leaf) (back here last : Place) (r : Record) (newest : List Place)
    → noted newest (directed_at leaves r) here last (length (blocks_for m leaves back here r)) ≡ places_after m leaves here last r newest
noted_is m leaves back here last r newest =
    elim (nat_le (length (result_of leaves r).pairs) m) as
    (λ b. noted newest (directed_at leaves r) here last
    (length (if b then Delta (directed_at leaves r) back (r ∷ []) ∷ [] else Delta (directed_at leaves r) back (r ∷ []) ∷ Split (directed_at leaves r) here
    (upper_of m (length leaves + 1) (result_of leaves r)) ∷ []))
    ≡ (if b then set newest (directed_at leaves r - 1) here else set newest (directed_at leaves r - 1) last ++ last ∷ []))
    [ true ↦ refl | false ↦ refl ]

-- the store after all was written
pub entered : {s : Kept} {back : Place} {blocks : List Block} (m : Marked) → Enters s m.item back blocks → (IsSpent (shown_of s.filed) m.item → ⊥)
    → (writer page : ℕ) (entries : List Entry) (filed : Filed) (newest : List Place) (making : Filling)
    → page ≡ directed_at s.filed.leaves m.item
    → (es : List Entry) → entries ≡ es ++ record { writer = writer; more = m.more; item = m.item } ∷ [] → es ≡ s.entries
    → filed ≡ record s.filed { leaves = applied s.filed.m s.filed.leaves m.item }
    → (ps : List Place) → newest ≡ noted ps page (here_for (frame_of s.making) page) (last_for (frame_of s.making) page) (length blocks) → ps ≡ s.newest
    → making ≡ with_all s.making blocks
    → (rings rs : List Ring) → rings ≡ rs → rs ≡ s.rings
    → record s { rings = rings; entries = entries; filed = filed; newest = newest; making = making } ≡ taken s writer m back
entered {s} {back} {blocks} m e not writer page entries filed newest making at es e1 e1' e2 ps e3 e3' e4 rings rs e5 e5' =
    let places : newest ≡ places_after s.filed.m s.filed.leaves (here_at s m.item) (last_at s m.item) m.item s.newest =
    e3 ∙ ap (λ (l : List Place). noted l page (here_for (frame_of s.making) page) (last_for (frame_of s.making) page) (length blocks)) e3'
    ∙ ap (λ (p : ℕ). noted s.newest p (here_for (frame_of s.making) p) (last_for (frame_of s.making) p) (length blocks)) at
    ∙ ap (λ (bs : List Block). noted s.newest (directed_at s.filed.leaves m.item) (here_at s m.item) (last_at s m.item) (length bs)) e.made
    ∙ noted_is s.filed.m s.filed.leaves back (here_at s m.item) (last_at s m.item) m.item s.newest in
    let made : making ≡ with_all s.making (blocks_for s.filed.m s.filed.leaves back (here_at s m.item) m.item) = e4 ∙ ap (with_all s.making) e.made in
    ap (λ (l : List Ring). record s { rings = l; entries = entries; filed = filed; newest = newest; making = making }) (e5 ∙ e5') ∙
    ap (λ (es : List Entry). record s { entries = es; filed = filed; newest = newest; making = making })
    (e1 ∙ ap (λ (l : List Entry). l ++ record { writer = writer; more = m.more; item = m.item } ∷ []) e1')
    ∙ ap (λ (f : Filed). record s {
      entries = s.entries ++ record { writer = writer; more = m.more; item = m.item } ∷ [];
      filed = f;
      newest = newest;
      making = making;
    }) e2
    ∙ ap (λ (ps : List Place). record s {
      entries = s.entries ++ record { writer = writer; more = m.more; item = m.item } ∷ [];
      filed = record s.filed { leaves = applied s.filed.m s.filed.leaves m.item };
      newest = ps;
      making = making;
    }) places
    ∙ ap (λ (b : Filling). record s {
      entries = s.entries ++ record { writer = writer; more = m.more; item = m.item } ∷ [];
      filed = record s.filed { leaves = applied s.filed.m s.filed.leaves m.item };
      newest = places_after s.filed.m s.filed.leaves (here_at s m.item) (last_at s m.item) m.item s.newest;
      making = b;
    }) made

pub entered_sound : {s : Kept} {back : Place} {blocks : List Block} (m : Marked) → Enters s m.item back blocks
    → (IsSpent (shown_of s.filed) m.item → ⊥) → s.log.is_failed ≡ false → (writer : ℕ)
    → writer < length s.rings → IsSound (taken s writer m back)
entered_sound {s} {back} {blocks} m e not works writer inside = taken_sound s writer m back (takes_one s writer m.item back blocks e not works inside)

-- a lane is one of the rings
pub lane_inside : (lanes : List Lane) (at : ℕ) → at < length lanes → at < length (map ring_of_lane lanes)
lane_inside lanes at lt = (let e = length-map lanes ring_of_lane in omega arith)
