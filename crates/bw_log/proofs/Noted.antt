-- The table of places after a frame's blocks.

use Rattle.std.proofs.Common.{◌≡◌, ◌≢◌, ℕ, zero, suc, ◌+◌, ◌-◌, ◌<◌, ◌≤◌, ◌==◌, ◌||◌, inl, inr, Bool, true, false, if◌then◌else◌, Option, Some, None, List, []}
use Rattle.std.proofs.Common.{◌∷◌, ◌++◌, length, drop, max, replicate, refl, sym, ap, subst, ◌∙◌, append_assoc, append-nil, arith, get_or, set}
use Rattle.std.proofs.lemmas.List.{length-set}
use Rattle.std.proofs.lemmas.Option.{slice_get-get_or}
use Rattle.std.proofs.lemmas.Bool.{eqb-true, eqb-false, ne_eqb, cases_Bool}
use Rattle.std.proofs.lemmas.Grind.{flat_map-append}
use Rattle.std.specs.Prelude.{IfSome}
use Rattle.std.specs.List.{fold, slice_get}
use Rattle.bw_record.specs.Touch.{touches, sets}
use Rattle.bw_record.specs.declared.block.Place.{Place}
use Rattle.bw_record.specs.declared.block.Block.{Block}
use Rattle.bw_record.specs.declared.block.Block.TheVariants.{Delta, Base, Split}
use Rattle.bw_record.specs.declared.block.Frame.{Frame}
use Rattle.bw_buffer.specs.Marks.{mark_of}
use Rattle.bw_buffer.specs.declared.mark.Mark.{Mark}
use Rattle.bw_buffer.specs.declared.mark.Mark.TheVariants.{Changes, Sets, Splits}
use Rattle.bw_log.specs.Places.{placed, all_placed, later, one_more, walked}
use Rattle.bw_log.specs.Contents.{some_place, entry_place, place_in, entry_walk, walk_in, IsTable}
use Rattle.bw_log.specs.PageTable.{changed_line, set_line, with_place, with_base, noted, noted_all, IsInTable, HasLines, HaveLines, top_of, top_page}
use Rattle.bw_log.specs.PageTable.{no_place, empty_line}
use Rattle.bw_log.specs.declared.places.PageAt.{PageAt}

-- ---- one line

get_set_same : {X : Type 0} (xs : List X) (i : ℕ) (x : X) → i < length xs → slice_get (set xs i x) i ≡ Some x
get_set_same [] i x inside = absurd (omega arith)
get_set_same (y ∷ ys) zero x inside = refl
get_set_same (y ∷ ys) (suc i) x inside = get_set_same ys i x (omega arith)

get_set_other : {X : Type 0} (xs : List X) (i j : ℕ) (x : X) → j ≢ i → slice_get (set xs i x) j ≡ slice_get xs j
get_set_other [] i j x other = refl
get_set_other (y ∷ ys) zero zero x other = absurd (other refl)
get_set_other (y ∷ ys) zero (suc j) x other = refl
get_set_other (y ∷ ys) (suc i) zero x other = refl
get_set_other (y ∷ ys) (suc i) (suc j) x other = get_set_other ys i j x (λ e. other (ap suc e))

-- what is said of each page once the line of one is written
said_set : {X : Type 0} (say : Option PageAt → X) (pages : List PageAt) (k p : ℕ) (line : PageAt) → IsInTable k (length pages) → 1 ≤ p
    → say (slice_get (set pages (k - 1) line) (p - 1)) ≡ (if k == p then say (Some line) else say (slice_get pages (p - 1)))
said_set say pages k p line inside from =
    elim (cases_Bool (k == p)) [
      | inl same ↦ (
          let e : k ≡ p = eqb-true k p same in
          let here : slice_get (set pages (k - 1) line) (p - 1) ≡ Some line =
          ap (λ (i : ℕ). slice_get (set pages (k - 1) line) (i - 1)) (sym e) ∙ get_set_same pages (k - 1) line (omega arith) in
          ap say here ∙ rw same refl)
      | inr apart ↦ (
          let other : p - 1 ≢ k - 1 = λ e. eqb-false k p apart (omega arith) in
          ap say (get_set_other pages (k - 1) (p - 1) line other) ∙ rw apart refl)
    ]

line_set : (field : PageAt → Place) (pages : List PageAt) (k p : ℕ) (line : PageAt) → IsInTable k (length pages) → 1 ≤ p
    → place_in field (set pages (k - 1) line) p ≡ (if k == p then some_place (field line) else place_in field pages p)
line_set field pages k p line inside from = said_set (entry_place field) pages k p line inside from

real_place : (q : Place) → 1 ≤ q.frame → some_place q ≡ Some q
real_place q some = rw (ne_eqb q.frame 0 (λ e. absurd (omega arith))) refl

-- the base that the line had stays
base_kept : (pages : List PageAt) (k : ℕ) (q : Place) (d : PageAt) → IsInTable k (length pages)
    → some_place (get_or pages (k - 1) d).base ≡ place_in (λ e. e.base) pages k
base_kept pages k q d inside = ap (entry_place (λ (e : PageAt). e.base)) (sym (slice_get-get_or pages (k - 1) d (omega arith)))

-- ---- one block

place_with_place : (pages : List PageAt) (k p : ℕ) (q : Place) → IsInTable k (length pages) → 1 ≤ p → 1 ≤ q.frame
    → place_in (λ e. e.place) (with_place k q pages) p ≡ (if k == p then Some q else place_in (λ e. e.place) pages p)
place_with_place pages k p q inside from some =
    line_set (λ (e : PageAt). e.place) pages k p _ inside from
    ∙ ap (λ (o : Option Place). if k == p then o else place_in (λ e. e.place) pages p) (real_place q some)

place_with_base : (field : PageAt → Place) (pages : List PageAt) (k p : ℕ) (q : Place) → field (set_line q) ≡ q → IsInTable k (length pages)
    → 1 ≤ p → 1 ≤ q.frame
    → place_in field (with_base k q pages) p ≡ (if k == p then Some q else place_in field pages p)
place_with_base field pages k p q same inside from some =
    line_set field pages k p (set_line q) inside from ∙ ap (λ (o : Option Place). if k == p then o else place_in field pages p)
    (ap some_place same ∙ real_place q some)

base_with_place : (pages : List PageAt) (k p : ℕ) (q : Place) → IsInTable k (length pages) → 1 ≤ p
    → place_in (λ e. e.base) (with_place k q pages) p ≡ place_in (λ e. e.base) pages p
base_with_place pages k p q inside from =
    line_set (λ (e : PageAt). e.base) pages k p (changed_line q (get_or pages (k - 1) (set_line q))) inside from
    ∙ (elim (cases_Bool (k == p)) [
      | inl same ↦ rw same (base_kept pages k q (set_line q) inside ∙ ap (place_in (λ e. e.base) pages) (eqb-true k p same))
      | inr apart ↦ rw apart refl
    ])

-- what a line says of its walk after a block of its page
abbrev further : Place → ℕ × ℕ → ℕ × ℕ
further q was = (q.frame, if was.0 == q.frame then was.1 else one_more was.1)

walk_with_base : (pages : List PageAt) (k p : ℕ) (q : Place) → IsInTable k (length pages) → 1 ≤ p
    → walk_in (with_base k q pages) p ≡ (if k == p then (q.frame, 1) else walk_in pages p)
walk_with_base pages k p q inside from = said_set entry_walk pages k p (set_line q) inside from

walk_with_place : (pages : List PageAt) (k p : ℕ) (q : Place) → IsInTable k (length pages) → 1 ≤ p
    → walk_in (with_place k q pages) p ≡ (if k == p then further q (walk_in pages p) else walk_in pages p)
walk_with_place pages k p q inside from =
    said_set entry_walk pages k p (changed_line q (get_or pages (k - 1) (set_line q))) inside from
    ∙ (elim (cases_Bool (k == p)) [
      | inl same ↦ rw same (
          ap (λ (o : Option PageAt). further q (entry_walk o)) (sym (slice_get-get_or pages (k - 1) (set_line q) (omega arith)))
          ∙ ap (λ (i : ℕ). further q (walk_in pages i)) (eqb-true k p same))
      | inr apart ↦ rw apart refl
    ])

pub length-noted : (mark : Mark) (q : Place) (pages : List PageAt) → length (noted mark q pages) ≡ length pages
length-noted (Changes page) q pages = length-set pages (page - 1) _
length-noted (Sets page) q pages = length-set pages (page - 1) _
length-noted (Splits page made) q pages = length-set (with_place page q pages) (made - 1) _ ∙ length-set pages (page - 1) _

either : (s t : Bool) (q : Place) (o : Option Place) → (if t then Some q else if s then Some q else o) ≡ (if s || t then Some q else o)
either true true q o = refl
either true false q o = refl
either false true q o = refl
either false false q o = refl

place_noted : (b : Block) (q : Place) (pages : List PageAt) (p : ℕ) → HasLines (mark_of b) (length pages) → 1 ≤ p → 1 ≤ q.frame
    → place_in (λ e. e.place) (noted (mark_of b) q pages) p ≡ later (touches p) (place_in (λ e. e.place) pages p) (q, b)
place_noted (Delta page back ops) q pages p lines from some = place_with_place pages page p q lines from some
place_noted (Base leaf) q pages p lines from some = place_with_base (λ (e : PageAt). e.place) pages leaf.page p q refl lines from some
place_noted (Split page back upper) q pages p lines from some =
    let inside : IsInTable upper.page (length (with_place page q pages)) = subst (IsInTable upper.page) (sym (length-noted (Changes page) q pages)) lines.1 in
    place_with_base (λ (e : PageAt). e.place) (with_place page q pages) upper.page p q refl inside from some
    ∙ ap (λ (o : Option Place). if upper.page == p then Some q else o) (place_with_place pages page p q lines.0 from some)
    ∙ either (page == p) (upper.page == p) q (place_in (λ e. e.place) pages p)

base_noted : (b : Block) (q : Place) (pages : List PageAt) (p : ℕ) → HasLines (mark_of b) (length pages) → 1 ≤ p → 1 ≤ q.frame
    → place_in (λ e. e.base) (noted (mark_of b) q pages) p ≡ later (sets p) (place_in (λ e. e.base) pages p) (q, b)
base_noted (Delta page back ops) q pages p lines from some = base_with_place pages page p q lines from
base_noted (Base leaf) q pages p lines from some = place_with_base (λ (e : PageAt). e.base) pages leaf.page p q refl lines from some
base_noted (Split page back upper) q pages p lines from some =
    let inside : IsInTable upper.page (length (with_place page q pages)) = subst (IsInTable upper.page) (sym (length-noted (Changes page) q pages)) lines.1 in
    place_with_base (λ (e : PageAt). e.base) (with_place page q pages) upper.page p q refl inside from some
    ∙ ap (λ (o : Option Place). if upper.page == p then Some q else o) (base_with_place pages page p q lines.0 from)

twice : {X : Type 0} (t : Bool) (x y z : X) → (if t then x else z) ≡ (if t then x else if t then y else z)
twice true x y z = refl
twice false x y z = refl

both_ways : {X : Type 0} (s t : Bool) (x y z : X) → (if t then x else if s then y else z) ≡ (if t then x else if s || t then y else z)
both_ways true true x y z = refl
both_ways true false x y z = refl
both_ways false true x y z = refl
both_ways false false x y z = refl

walk_noted : (b : Block) (q : Place) (pages : List PageAt) (p : ℕ) → HasLines (mark_of b) (length pages) → 1 ≤ p
    → walk_in (noted (mark_of b) q pages) p ≡ walked p (walk_in pages p) (q, b)
walk_noted (Delta page back ops) q pages p lines from = walk_with_place pages page p q lines from
walk_noted (Base leaf) q pages p lines from =
    walk_with_base pages leaf.page p q lines from ∙ twice (leaf.page == p) (q.frame, 1) (further q (walk_in pages p)) (walk_in pages p)
walk_noted (Split page back upper) q pages p lines from =
    let inside : IsInTable upper.page (length (with_place page q pages)) = subst (IsInTable upper.page) (sym (length-noted (Changes page) q pages)) lines.1 in
    walk_with_base (with_place page q pages) upper.page p q inside from
    ∙ ap (λ (w : ℕ × ℕ). if upper.page == p then (q.frame, 1) else w) (walk_with_place pages page p q lines.0 from)
    ∙ both_ways (page == p) (upper.page == p) (q.frame, 1) (further q (walk_in pages p)) (walk_in pages p)

-- ---- a frame's blocks

lines_stay : (bs : List Block) (m n : ℕ) → m ≡ n → HaveLines bs n → HaveLines bs m
lines_stay bs m n e lines = subst (HaveLines bs) (sym e) lines

-- what a table says changes by one step a block
noted_on : {A : Type 0} (says : List PageAt → A) (step : A → Place × Block → A) (number : ℕ)
    → ((b : Block) (i : ℕ) (pages : List PageAt) → HasLines (mark_of b) (length pages)
    → says (noted (mark_of b) (record { frame = number; index = i }) pages) ≡ step (says pages) (record { frame = number; index = i }, b))
    → (i : ℕ) (bs : List Block) (pages : List PageAt) → HaveLines bs (length pages)
    → says (noted_all number i bs pages) ≡ fold step (says pages) (placed number i bs)
noted_on says step number one i [] pages lines = refl
noted_on {A} says step number one i (b ∷ bs) pages lines =
    let q : Place = record { frame = number; index = i } in
    noted_on says step number one (i + 1) bs (noted (mark_of b) q pages)
    (lines_stay bs (length (noted (mark_of b) q pages)) (length pages) (length-noted (mark_of b) q pages) lines.1)
    ∙ ap (λ (a : A). fold step a (placed number (i + 1) bs)) (one b i pages lines.0)

pub length-noted_all : (number i : ℕ) (bs : List Block) (pages : List PageAt) → length (noted_all number i bs pages) ≡ length pages
length-noted_all number i [] pages = refl
length-noted_all number i (b ∷ bs) pages =
    length-noted_all number (i + 1) bs (noted (mark_of b) (record { frame = number; index = i }) pages)
    ∙ length-noted (mark_of b) (record { frame = number; index = i }) pages

pub fold-append : {X Y : Type 0} (step : Y → X → Y) (acc : Y) (xs ys : List X) → fold step acc (xs ++ ys) ≡ fold step (fold step acc xs) ys
fold-append step acc [] ys = refl
fold-append step acc (x ∷ xs) ys = fold-append step (step acc x) xs ys

placed_more : (frames : List Frame) (x : Frame) → all_placed (frames ++ x ∷ []) ≡ all_placed frames ++ placed x.number 0 x.blocks
placed_more frames x = flat_map-append (λ (f : Frame). placed f.number 0 f.blocks) frames (x ∷ [])
    ∙ ap (λ (l : List (Place × Block)). all_placed frames ++ l) (append-nil (placed x.number 0 x.blocks))

-- what a table says by the blocks of all frames, after a frame more
told_more : {A : Type 0} (says : List PageAt → A) (step : A → Place × Block → A) (none : A) (pages : List PageAt) (all : List Frame) (x : Frame)
    → ((b : Block) (i : ℕ) (l : List PageAt) → HasLines (mark_of b) (length l)
    → says (noted (mark_of b) (record { frame = x.number; index = i }) l) ≡ step (says l) (record { frame = x.number; index = i }, b))
    → HaveLines x.blocks (length pages) → says pages ≡ fold step none (all_placed all)
    → says (noted_all x.number 0 x.blocks pages) ≡ fold step none (all_placed (all ++ x ∷ []))
told_more {A} says step none pages all x one lines told =
    noted_on says step x.number one 0 x.blocks pages lines
    ∙ ap (λ (a : A). fold step a (placed x.number 0 x.blocks)) told
    ∙ sym (ap (fold step none) (placed_more all x) ∙ fold-append step none (all_placed all) (placed x.number 0 x.blocks))

-- the table after a frame more
pub table_more : (pages : List PageAt) (all : List Frame) (x : Frame) → IsTable pages all → 1 ≤ x.number → HaveLines x.blocks (length pages)
    → IsTable (noted_all x.number 0 x.blocks pages) (all ++ x ∷ [])
table_more pages all x table some lines = record {
  places = λ p from. told_more (λ l. place_in (λ e. e.place) l p) (later (touches p)) None pages all x
      (λ b i l has. place_noted b (record { frame = x.number; index = i }) l p has from some) lines (table.places p from);
  bases = λ p from. told_more (λ l. place_in (λ e. e.base) l p) (later (sets p)) None pages all x
      (λ b i l has. base_noted b (record { frame = x.number; index = i }) l p has from some) lines (table.bases p from);
  walks = λ p from. told_more (λ l. walk_in l p) (walked p) (0, 0) pages all x
      (λ b i l has. walk_noted b (record { frame = x.number; index = i }) l p has from) lines (table.walks p from);
}

-- ---- lines that say nothing

grown_at : (field : PageAt → Place) (pages : List PageAt) (i : ℕ) → field empty_line ≡ no_place
    → entry_place field (slice_get (pages ++ empty_line ∷ []) i) ≡ entry_place field (slice_get pages i)
grown_at field [] zero none = ap some_place none
grown_at field [] (suc i) none = refl
grown_at field (e ∷ es) zero none = refl
grown_at field (e ∷ es) (suc i) none = grown_at field es i none

walk_grown : (pages : List PageAt) (i : ℕ) → entry_walk (slice_get (pages ++ empty_line ∷ []) i) ≡ entry_walk (slice_get pages i)
walk_grown [] zero = refl
walk_grown [] (suc i) = refl
walk_grown (e ∷ es) zero = refl
walk_grown (e ∷ es) (suc i) = walk_grown es i

table_grown : (pages : List PageAt) (all : List Frame) → IsTable pages all → IsTable (pages ++ empty_line ∷ []) all
table_grown pages all table = record {
  places = λ p from. grown_at (λ (e : PageAt). e.place) pages (p - 1) refl ∙ table.places p from;
  bases = λ p from. grown_at (λ (e : PageAt). e.base) pages (p - 1) refl ∙ table.bases p from;
  walks = λ p from. walk_grown pages (p - 1) ∙ table.walks p from;
}

pub table_grown_by : (k : ℕ) (pages : List PageAt) (all : List Frame) → IsTable pages all → IsTable (pages ++ replicate k empty_line) all
table_grown_by zero pages all table = subst (λ (l : List PageAt). IsTable l all) (sym (append-nil pages)) table
table_grown_by (suc k) pages all table =
    subst (λ (l : List PageAt). IsTable l all) (append_assoc pages (empty_line ∷ []) (replicate k empty_line))
    (table_grown_by k (pages ++ empty_line ∷ []) all (table_grown pages all table))

-- ---- the loops over a buffer's blocks

pub record Here (bs : List Block) (i : ℕ) (mark : Mark) : Type 0 where
  pub block : Block
  pub marks : mark ≡ mark_of block
  pub split : drop i bs ≡ block ∷ drop (i + 1) bs

pub block_here : (bs : List Block) (i : ℕ) (mark : Mark) → i < length bs → IfSome (slice_get bs i) (λ block. mark ≡ mark_of block) → Here bs i mark
block_here [] i mark inside is = absurd (omega arith)
block_here (b ∷ bs) zero mark inside is = record { block = b; marks = is; split = refl }
block_here (b ∷ bs) (suc i) mark inside is =
    let h = block_here bs i mark (omega arith) is in
    let same : suc i + 1 ≡ suc (i + 1) = omega arith in
    let on : drop (suc i + 1) (b ∷ bs) ≡ drop (i + 1) bs = ap (λ (k : ℕ). drop k (b ∷ bs)) same in
    record { block = h.block; marks = h.marks; split = h.split ∙ ap (λ (l : List Block). h.block ∷ l) (sym on) }

pub top_goes_on : (bs : List Block) (i : ℕ) (mark : Mark) (best all : ℕ) → Here bs i mark → max best (top_page (drop i bs)) ≡ all
    → max (max best (top_of mark)) (top_page (drop (i + 1) bs)) ≡ all
top_goes_on bs i mark best all here is =
    let split : top_page (drop i bs) ≡ max (top_of mark) (top_page (drop (i + 1) bs)) =
    ap top_page here.split ∙ ap (λ (m : Mark). max (top_of m) (top_page (drop (i + 1) bs))) (sym here.marks) in
    omega arith

pub noting_goes_on : (number i : ℕ) (bs : List Block) (mark : Mark) (pages : List PageAt) → Here bs i mark
    → noted_all number (i + 1) (drop (i + 1) bs) (noted mark (record { frame = number; index = i }) pages) ≡ noted_all number i (drop i bs) pages
noting_goes_on number i bs mark pages here =
    ap (λ (m : Mark). noted_all number (i + 1) (drop (i + 1) bs) (noted m (record { frame = number; index = i }) pages)) here.marks
    ∙ ap (λ (l : List Block). noted_all number i l pages) (sym here.split)

pub lines_go_on : (i n : ℕ) (bs : List Block) (mark : Mark) → Here bs i mark → HaveLines (drop i bs) n → HasLines mark n × HaveLines (drop (i + 1) bs) n
lines_go_on i n bs mark here lines =
    let both = subst (λ (l : List Block). HaveLines l n) here.split lines in
    (subst (λ (m : Mark). HasLines m n) (sym here.marks) both.0, both.1)
