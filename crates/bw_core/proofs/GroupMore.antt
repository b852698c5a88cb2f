-- A group is entered whole: what it leaves in the places, the blocks and the history.

use Rattle.std.proofs.Common.{◌≡◌, ℕ, suc, ◌+◌, ◌-◌, ◌*◌, ◌<◌, ◌≤◌, true, false, Option, Some, None, List, [], ◌∷◌, ◌++◌}
use Rattle.std.proofs.Common.{length, set, take, refl, sym, ap, ◌∙◌, subst, arith, if◌then◌else◌, append-nil, append_assoc}
use Rattle.std.specs.Prelude.{nat_le, is_some}
use Rattle.std.specs.List.{AllByRecursion as All, fold}
use Rattle.std.proofs.lemmas.Grind.{fold-append}
use Rattle.bw_record.specs.Lawful.{IsOp}
use Rattle.bw_record.specs.Record.{key_of}
use Rattle.bw_record.specs.declared.record.Record.{Record}
use Rattle.bw_record.specs.declared.leaf.Leaf.{Leaf}
use Rattle.bw_record.specs.declared.block.Place.{Place}
use Rattle.bw_record.specs.declared.block.Block.{Block}
use Rattle.bw_page.specs.Batch.{AreHere, SomeIsSpent}
use Rattle.bw_page.specs.Leaves.{applied, directed_at, pages, HasPages, AreLeaves}
use Rattle.bw_leaf.specs.SplitRule.{upper_of}
use Rattle.bw_page.specs.Seats.{is_among}
use Rattle.bw_page.specs.Shown.{Shown}
use Rattle.bw_page.proofs.Indexed.{home_within}
use Rattle.bw_page.proofs.Law.{applied-lawful}
use Rattle.bw_buffer.specs.Filling.{frame_of, with_all, size_of}
use Rattle.bw_buffer.specs.Counting.{grown}
use Rattle.bw_buffer.specs.Joining.{joined, open_records}
use Rattle.bw_log.proofs.Adding.{following_is}
use Rattle.bw_ring.specs.Marks.{Marked}
use Rattle.bw_history.specs.declared.entry.Entry.{Entry}
use Rattle.bw_making.specs.Adding.{Drawn, back_in, blocks_in, blocks_all, drawn_by, here_for, last_for, nowhere, result_of, upper_if}
use Rattle.bw_core.specs.Drafting.{drawn_behind}
use Rattle.bw_making.specs.Drafting.{AreIn, count_by, row_by, row_for, rows_all, set_row}
use Rattle.bw_core.specs.Fitting.{Fits, back_for, drawn_of, group_blocks, here_at}
use Rattle.bw_history.specs.History.{entered}
use Rattle.bw_core.specs.Kept.{Kept, IsSound}
use Rattle.bw_making.specs.Overlay.{is_made}
use Rattle.bw_core.specs.Taken.{alone, taken, taken_all}
use Rattle.bw_core.specs.Taking.{HasAllPages}
use Rattle.bw_core.proofs.EvictedPages.{evicted_entered}
use Rattle.bw_core.proofs.Drafted.{some_at}
use Rattle.bw_core.proofs.Drafts.{items, made_all, part_shorter}
use Rattle.bw_log.specs.Contents as logs
use Rattle.bw_core.proofs.Growing.{blocks_lawful}
use Rattle.bw_making.proofs.Joins.{added_shorter}
use Rattle.bw_core.proofs.Planned.{takes_by, blocks_short}
use Rattle.bw_core.proofs.RecordMore.{TakesOne, taken_sound}
use Rattle.bw_core.proofs.Stepping.{length-applied}

-- ---- rows

row_page : (p : ℕ) (here last : Place) (k : ℕ) (o : Option Leaf) → (row_by p here last k o).page ≡ p
row_page p here last k None = refl
row_page p here last k (Some u) = refl

row_made : (p : ℕ) (here last : Place) (k : ℕ) (o : Option Leaf) → is_some (row_by p here last k o).made ≡ is_some o
row_made p here last k None = refl
row_made p here last k (Some u) = refl

row_count : (p n : ℕ) (here last : Place) (k m page : ℕ) (leaf : Leaf)
    → count_by (row_by p here last k (upper_if m page leaf)).made n ≡ (if nat_le (length leaf.pairs) m then n else n + 1)
row_count p n here last k m page leaf =
    elim (nat_le (length leaf.pairs) m) as (λ b. count_by (row_by p here last k (if b then None else Some (upper_of m page leaf))).made n ≡
    (if b then n else n + 1))
    [ true ↦ refl | false ↦ refl ]

pub row_set : (m : ℕ) (d : Drawn) (r : Record) → set_row d.newest (row_for m d r) ≡ (drawn_by m d r).newest
row_set m d r =
    elim (nat_le (length (result_of d.leaves r).pairs) m) as (λ b.
    set_row d.newest (row_by (directed_at d.leaves r) (here_for d.frame (directed_at d.leaves r)) (last_for d.frame (directed_at d.leaves r))
    (grown (open_records (directed_at d.leaves r) d.frame.blocks) 1) (if b then None else Some (upper_of m (length d.leaves + 1) (result_of d.leaves r))))
    ≡ (if b then set d.newest (directed_at d.leaves r - 1) (here_for d.frame (directed_at d.leaves r))
    else set d.newest (directed_at d.leaves r - 1) (last_for d.frame (directed_at d.leaves r)) ++ last_for d.frame (directed_at d.leaves r) ∷ []))
    [ true ↦ refl | false ↦ refl ]

pub rows_set : (m : ℕ) (d : Drawn) (rs : List Record) → fold set_row d.newest (rows_all m d rs) ≡ (fold (drawn_by m) d rs).newest
rows_set m d [] = refl
rows_set m d (r ∷ rs) =
    ap (λ (ps : List Place). fold set_row ps (rows_all m (drawn_by m d r) rs)) (row_set m d r) ∙ rows_set m (drawn_by m d r) rs

pub length_rows : (m : ℕ) (d : Drawn) (rs : List Record) → length (rows_all m d rs) ≡ length rs
length_rows m d [] = refl
length_rows m d (r ∷ rs) = ap suc (length_rows m (drawn_by m d r) rs)

-- ---- what one record after the other does to lawful pages

pub record Lawful (m : ℕ) (d : Drawn) (rs : List Record) : Type 0 where
  pub some : 1 ≤ m
  pub leaves : AreLeaves m d.leaves
  pub room : HasPages m d.leaves rs
  pub ops : All IsOp rs

lawful_next : (m : ℕ) (d : Drawn) (r : Record) (rs : List Record) → Lawful m d (r ∷ rs) → Lawful m (drawn_by m d r) rs
lawful_next m d r rs l = record {
  some = l.some;
  leaves = applied-lawful m d.leaves r l.some l.room.0 l.leaves l.ops.0;
  room = l.room.1;
  ops = l.ops.1;
}

pub rows_in : (m : ℕ) (d : Drawn) (rs : List Record) → Lawful m d rs → AreIn (length d.leaves) (rows_all m d rs)
rows_in m d [] l = tt
rows_in m d (r ∷ rs) l =
    let p0 = directed_at d.leaves r in
    let range = home_within m (key_of r) d.leaves l.leaves in
    let page = row_page p0 (here_for d.frame p0) (last_for d.frame p0) (grown (open_records p0 d.frame.blocks) 1)
    (upper_if m (length d.leaves + 1) (result_of d.leaves r)) in
    let count = row_count p0 (length d.leaves) (here_for d.frame p0) (last_for d.frame p0) (grown (open_records p0 d.frame.blocks) 1) m
    (length d.leaves + 1) (result_of d.leaves r)
    ∙ sym (length-applied m d.leaves r l.some l.leaves l.ops.0) in (
      (omega arith, omega arith),
      subst (λ (n : ℕ). AreIn n (rows_all m (drawn_by m d r) rs)) (sym count) (rows_in m (drawn_by m d r) rs (lawful_next m d r rs l)),
    )

-- a page that is evicted is not made by it
pub rows_evicted : (m : ℕ) (d : Drawn) (rs : List Record) (evicted : List ℕ) (q : ℕ) → Lawful m d rs
    → AreHere (record { m = m; leaves = d.leaves; evicted = evicted }) rs
    → ((p : ℕ) → length d.leaves < p → is_among p evicted ≡ false) → is_among q evicted ≡ true → is_made q d.frame.blocks ≡ false
    → is_made q (fold (drawn_by m) d rs).frame.blocks ≡ false
rows_evicted m d [] evicted q l here beyond there apart = apart
rows_evicted m d (r ∷ rs) evicted q l here beyond there apart =
    let p0 = directed_at d.leaves r in
    let long = length-applied m d.leaves r l.some l.leaves l.ops.0 in
    let grows : length d.leaves ≤ length (applied m d.leaves r) =
    elim (nat_le (length (result_of d.leaves r).pairs) m) as (λ b. length (applied m d.leaves r) ≡ (if b then length d.leaves else length d.leaves + 1)
    → length d.leaves ≤ length (applied m d.leaves r)) [ true ↦ λ e. omega arith | false ↦ λ e. omega arith ] long in
    rows_evicted m (drawn_by m d r) rs evicted q (lawful_next m d r rs l) (here.1 l.room.0) (λ p more. beyond p (omega arith)) there
    (evicted_entered m d.leaves (back_in d r) (here_for d.frame p0) r d.frame.blocks evicted q there here.0 (beyond (length d.leaves + 1) (omega arith)) apart)

-- ---- the store after it

pub taken_is : (s : Kept) (w : ℕ) (ms : List Marked) → taken_all s w ms ≡ record s {
  entries = s.entries ++ entered w ms;
  filed = record s.filed { leaves = (drawn_behind s (items ms)).leaves };
  newest = (drawn_behind s (items ms)).newest;
  making = with_all s.making (group_blocks s (items ms));
}
taken_is s w [] = ap (λ (es : List Entry). record s { entries = es }) (sym (append-nil s.entries))
taken_is s w (m ∷ ms) =
    let one = taken s w m (back_for s m.item) in
    let d = fold (drawn_by s.filed.m) (drawn_by s.filed.m (drawn_of s) m.item) (items ms) in
    taken_is one w ms
    ∙ ap (λ (es : List Entry). record s {
      entries = es;
      filed = record s.filed { leaves = d.leaves };
      newest = d.newest;
      making = with_all one.making (group_blocks one (items ms));
    }) (append_assoc s.entries (record { writer = w; more = m.more; item = m.item } ∷ []) (entered w ms))
    ∙ ap (λ (bs : List Block). record s {
      entries = s.entries ++ entered w (m ∷ ms);
      filed = record s.filed { leaves = d.leaves };
      newest = d.newest;
      making = record s.making { blocks = bs };
    }) (sym (fold-append joined s.making.blocks (blocks_in s.filed.m (drawn_of s) m.item)
    (blocks_all s.filed.m (drawn_by s.filed.m (drawn_of s) m.item) (items ms))))

-- sound, if it fits: each store between would be
pub taken_all_sound : (s : Kept) (w : ℕ) (ms : List Marked) → IsSound s → s.log.is_failed ≡ false → s.log.next ≡ Some s.making.frame → All IsOp (items ms)
    → HasPages s.filed.m s.filed.leaves (items ms) → w < length s.rings → size_of (taken_all s w ms).making ≤ s.making.limit → IsSound (taken_all s w ms)
taken_all_sound s w [] h works next ops room inside fits = h
taken_all_sound s w (m ∷ ms) h works next ops room inside fits =
    let back = back_for s m.item in
    let one = taken s w m back in
    let made = ap size_of (made_all one w ms) in
    let shorter = part_shorter one.making [] (group_blocks one (items ms)) in
    let before = part_shorter s.making [] (blocks_in s.filed.m (drawn_of s) m.item) in
    let limit = h.limit in
    let top = h.log.holds.limits.3 in
    let here = home_within s.filed.m (key_of m.item) s.filed.leaves h.grown.stands.lawful in
    let count = h.grown.count in
    let small : size_of one.making ≤ s.making.limit = omega arith in
    let now : size_of s.making ≤ s.making.limit = omega arith in
    let t : TakesOne s w m.item back = record {
      sound = h;
      takes = takes_by s h m.item back ops.0 room.0 next now (some_at s.newest (directed_at s.filed.leaves m.item - 1) nowhere (omega arith));
      number = following_is (s.before + s.durable) s.making.frame (sym h.next ∙ next);
      inside = inside;
      works = works;
    } in
    taken_all_sound one w ms (taken_sound s w m back t) works next ops.1 room.1 inside fits

-- an empty frame has room for any group: a record's blocks are at most 12,000 bytes
pub fresh_fits : (s : Kept) (w k : ℕ) (rs : List Record) → IsSound s → s.log.is_failed ≡ false → s.log.next ≡ Some s.making.frame → All IsOp rs
    → HasPages s.filed.m s.filed.leaves rs → w < length s.rings → size_of s.making ≤ 20 + 12000 * k → k + length rs ≤ 4 → Fits s rs
fresh_fits s w k [] h works next ops room inside small few =
    (let limit = h.limit in let most = h.log.holds.limits.2 in omega arith)
fresh_fits s w k (r ∷ rs) h works next ops room inside small few =
    let back = back_for s r in
    let one = taken s w (alone r) back in
    let limit = h.limit in
    let most = h.log.holds.limits.2 in
    let top = h.log.holds.limits.3 in
    let here = home_within s.filed.m (key_of r) s.filed.leaves h.grown.stands.lawful in
    let count = h.grown.count in
    let now : size_of s.making ≤ s.making.limit = omega arith in
    let takes = takes_by s h r back ops.0 room.0 next now (some_at s.newest (directed_at s.filed.leaves r - 1) nowhere (omega arith)) in
    let lawful = blocks_lawful s.filed.m (logs.counted s.log) (frame_of s.making) s.filed.leaves s.newest back r takes in
    let pairs = h.pairs in
    let l = h.log.holds.limits in
    let short = blocks_short s.filed.m s.filed.leaves back (here_at s r) r (omega arith) h.grown.stands.lawful ops.0 lawful in
    let added_size = added_shorter s.making.blocks (blocks_in s.filed.m (drawn_of s) r) in
    let next_small : size_of one.making ≤ 20 + 12000 * (k + 1) = omega arith in
    let t : TakesOne s w r back = record {
      sound = h;
      takes = takes;
      number = following_is (s.before + s.durable) s.making.frame (sym h.next ∙ next);
      inside = inside;
      works = works;
    } in
    let rest : Fits one rs = fresh_fits one w (k + 1) rs (taken_sound s w (alone r) back t) works next ops.1 room.1 inside next_small (omega arith) in
    subst (λ (bs : List Block). size_of (record s.making { blocks = bs }) ≤ s.making.limit)
    (sym (fold-append joined s.making.blocks (blocks_in s.filed.m (drawn_of s) r) (blocks_all s.filed.m (drawn_by s.filed.m (drawn_of s) r) rs))) rest

-- ---- requirements of the growths

-- ---- why it is refused

pub spent_pages : (s : Kept) (f : Shown) (group : List Record) → f.m ≡ s.filed.m → f.leaves ≡ s.filed.leaves → SomeIsSpent f group → HasAllPages s group
spent_pages s f group pairs leaves x =
    let same = ap (λ (m : ℕ). length (pages m f.leaves (take x.0 group))) pairs in
    let pages_same = ap (λ (ls : List Leaf). length (pages s.filed.m ls (take x.0 group))) leaves in
    let over = x.3.1 in
    record {
      before = x.0;
      item = x.1;
      one = x.2;
      splits =
          subst (λ (m : ℕ). m < length (result_of (pages m s.filed.leaves (take x.0 group)) x.1).pairs) pairs
          (subst (λ (ls : List Leaf). f.m < length (result_of (pages f.m ls (take x.0 group)) x.1).pairs) leaves x.3.0);
      all = omega arith;
    }
