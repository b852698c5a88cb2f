-- A group is planned record by record, each on the pages, places and blocks after those before it.

use Rattle.std.proofs.Common.{◌≡◌, ℕ, ◌≤◌, List, [], ◌∷◌, ◌++◌}
use Rattle.std.proofs.Common.{map, refl, sym, ap, ◌∙◌, arith, append-nil, append_assoc}
use Rattle.std.specs.List.{fold}
use Rattle.std.proofs.lemmas.Grind.{fold-append}
use Rattle.bw_record.specs.declared.record.Record.{Record}
use Rattle.bw_record.specs.declared.block.Block.{Block}
use Rattle.bw_page.specs.Leaves.{pages}
use Rattle.bw_buffer.specs.Filling.{Filling, with_all, size_of}
use Rattle.bw_buffer.specs.Joining.{joined, added}
use Rattle.bw_buffer.proofs.Sizes.{added_longer}
use Rattle.bw_ring.specs.Marks.{Marked, marked}
use Rattle.bw_making.specs.Adding.{Drawn, blocks_in, blocks_all, drawn_by}
use Rattle.bw_core.specs.Drafting.{drawn_behind}
use Rattle.bw_making.specs.Drafting.{row_for, rows_all}
use Rattle.bw_making.specs.declared.draft.Row.{Row}
use Rattle.bw_core.specs.Fitting.{drawn_of, group_blocks, back_for}
use Rattle.bw_core.specs.Kept.{Kept}
use Rattle.bw_core.specs.Taken.{alone, taken, taken_all}

-- the records of marks
abbrev pub items : List Marked → List Record
items ms = map (λ (m : Marked). m.item) ms

pub items_alone : (rs : List Record) → items (map alone rs) ≡ rs
items_alone [] = refl
items_alone (r ∷ rs) = ap (λ (l : List Record). r ∷ l) (items_alone rs)

pub items_marked : (rs : List Record) → items (marked rs) ≡ rs
items_marked [] = refl
items_marked (r ∷ []) = refl
items_marked (r ∷ s ∷ rs) = ap (λ (l : List Record). r ∷ l) (items_marked (s ∷ rs))

-- ---- a store after records, and what is drawn of it

pub drawn_all : (s : Kept) (w : ℕ) (ms : List Marked) → drawn_of (taken_all s w ms) ≡ drawn_behind s (items ms)
drawn_all s w [] = refl
drawn_all s w (m ∷ ms) = drawn_all (taken s w m (back_for s m.item)) w ms

pub filed_m : (s : Kept) (w : ℕ) (ms : List Marked) → (taken_all s w ms).filed.m ≡ s.filed.m
filed_m s w [] = refl
filed_m s w (m ∷ ms) = filed_m (taken s w m (back_for s m.item)) w ms

pub made_all : (s : Kept) (w : ℕ) (ms : List Marked) → (taken_all s w ms).making ≡ with_all s.making (group_blocks s (items ms))
made_all s w [] = refl
made_all s w (m ∷ ms) =
    made_all (taken s w m (back_for s m.item)) w ms
    ∙ ap (λ (bs : List Block). record s.making { blocks = bs })
    (sym (fold-append joined s.making.blocks (blocks_in s.filed.m (drawn_of s) m.item)
    (blocks_all s.filed.m (drawn_by s.filed.m (drawn_of s) m.item) (items ms))))

pub leaves_all : (m : ℕ) (d : Drawn) (rs : List Record) → (fold (drawn_by m) d rs).leaves ≡ pages m d.leaves rs
leaves_all m d [] = refl
leaves_all m d (r ∷ rs) = leaves_all m (drawn_by m d r) rs

-- ---- one record more at the end

pub blocks_push : (m : ℕ) (d : Drawn) (rs : List Record) (r : Record)
    → blocks_all m d (rs ++ r ∷ []) ≡ blocks_all m d rs ++ blocks_in m (fold (drawn_by m) d rs) r
blocks_push m d [] r = append-nil (blocks_in m d r)
blocks_push m d (x ∷ rs) r =
    ap (λ (bs : List Block). blocks_in m d x ++ bs) (blocks_push m (drawn_by m d x) rs r)
    ∙ sym (append_assoc (blocks_in m d x) (blocks_all m (drawn_by m d x) rs) (blocks_in m (fold (drawn_by m) (drawn_by m d x) rs) r))

pub rows_push : (m : ℕ) (d : Drawn) (rs : List Record) (r : Record) → rows_all m d (rs ++ r ∷ []) ≡ rows_all m d rs ++ row_for m (fold (drawn_by m) d rs) r ∷ []
rows_push m d [] r = refl
rows_push m d (x ∷ rs) r = ap (λ (l : List Row). row_for m d x ∷ l) (rows_push m (drawn_by m d x) rs r)

pub taken_push : (s : Kept) (w : ℕ) (ms : List Marked) (m : Marked)
    → taken_all s w (ms ++ m ∷ []) ≡ taken (taken_all s w ms) w m (back_for (taken_all s w ms) m.item)
taken_push s w [] m = refl
taken_push s w (x ∷ ms) m = taken_push (taken s w x (back_for s x.item)) w ms m

-- the frame with the blocks of some records is no longer than with those of all
pub part_shorter : (b : Filling) (xs ys : List Block) → size_of (with_all b xs) ≤ size_of (with_all b (xs ++ ys))
part_shorter b xs ys =
    (let longer = added_longer (added b.blocks xs) ys in
    let all = ap (λ (bs : List Block). size_of (record b { blocks = bs })) (fold-append joined b.blocks xs ys) in
    omega arith)
