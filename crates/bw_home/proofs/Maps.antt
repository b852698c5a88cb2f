-- A change that was put, and then taken, changes the map.

use Rattle.std.proofs.Common.{◌≡◌, ℕ, ◌<◌, Bool, true, false, List, [], ◌∷◌, ◌++◌, length, map, refl, sym, ap, ◌∙◌, subst, arith, if◌then◌else◌}
use Rattle.std.specs.Prelude.{◌==◌, slice_index_or, slice_set, take}
use Rattle.std.specs.List.{AllByRecursion as All, fold}
use Rattle.std.proofs.lemmas.Bool.{eq-eqb}
use Rattle.std.proofs.lemmas.List.{length-map, map-append, take_all}
use Rattle.std.proofs.lemmas.List.Sums.{fold-append}
use Rattle.bw_record.specs.declared.record.Record.{Record}
use Rattle.bw_record.specs.declared.leaf.Leaf.{Leaf}
use Rattle.bw_leaf.specs.Changed.{changed_map}
use Rattle.bw_page.specs.Leaves.{plain}
use Rattle.bw_ring.specs.Ends.{Ring, accepted, ring_of_feed}
use Rattle.bw_ring.specs.Marks.{Marked, marked}
use Rattle.bw_ring.specs.declared.feed.Feed.{Feed}
use Rattle.bw_history.specs.declared.entry.Entry.{Entry}
use Rattle.bw_history.specs.Entries.{records}
use Rattle.bw_history.specs.History.{of_writer, streams}

-- the records of marked ones
abbrev pub items : List Marked → List Record
items ms = map (λ m. m.item) ms

-- what the first queue accepted
abbrev pub first_of : List Feed → List Marked
first_of feeds = slice_index_or (map accepted feeds) 0 []

items_marked : (g : List Record) → items (marked g) ≡ g
items_marked [] = refl
items_marked (r ∷ []) = refl
items_marked (r ∷ s ∷ rs) = ap (λ (l : List Record). r ∷ l) (items_marked (s ∷ rs))

-- ---- entries of the only writer

abbrev pub mark : Entry → Marked
mark e = record { item = e.item; more = e.more }

abbrev pub marks_of : List Entry → List Marked
marks_of es = map mark es

pub items_marks : (es : List Entry) → items (marks_of es) ≡ records es
items_marks [] = refl
items_marks (e ∷ es) = ap (λ (l : List Record). e.item ∷ l) (items_marks es)

own : (e : Entry) (es : List Entry) (b : Bool) → b ≡ true
    → (if b then record { item = e.item; more = e.more } ∷ of_writer 0 es else of_writer 0 es) ≡ record { item = e.item; more = e.more } ∷ of_writer 0 es
own e es true is = refl
own e es false is = absurd cc

pub own_marks : (es : List Entry) → All (λ e. e.writer < 1) es → of_writer 0 es ≡ marks_of es
own_marks [] all = refl
own_marks (e ∷ es) all =
    let below = all.0 in
    own e es (e.writer == 0) (eq-eqb e.writer 0 (omega arith))
    ∙ ap (λ (l : List Marked). record { item = e.item; more = e.more } ∷ l) (own_marks es all.1)

-- the only writer's records are all records
of_only : (es : List Entry) → All (λ e. e.writer < 1) es → items (of_writer 0 es) ≡ records es
of_only es all = ap items (own_marks es all) ∙ items_marks es

-- ---- what was put, and what was taken

-- all that was put is taken
pub all_taken : (es : List Entry) (feeds : List Feed) → length feeds ≡ 1 → streams 0 (length feeds) es ≡ map accepted feeds
    → All (λ e. e.writer < length feeds) es → items (first_of feeds) ≡ records es
all_taken es feeds one exactly writers =
    let only = subst (λ n. streams 0 n es ≡ map accepted feeds) one exactly in
    let first : of_writer 0 es ≡ first_of feeds = ap (λ (l : List (List Marked)). slice_index_or l 0 []) only in
    ap items (sym first) ∙ of_only es (subst (λ n. All (λ e. e.writer < n) es) one writers)

pub set_first : (lists : List (List Marked)) (ms : List Marked) → length lists ≡ 1 → slice_index_or (slice_set lists 0 ms) 0 [] ≡ ms
set_first [] ms one = absurd (omega arith)
set_first (l ∷ lists) ms one = refl

-- one group more was put
pub one_more : (old new : List Feed) (group : List Record) → length old ≡ 1
    → map accepted new ≡ slice_set (map accepted old) 0 (slice_index_or (map accepted old) 0 [] ++ marked group)
    → items (first_of new) ≡ items (first_of old) ++ group
one_more old new group one added =
    let count = length-map old accepted in
    ap (λ (l : List (List Marked)). items (slice_index_or l 0 [])) added
    ∙ ap items (set_first (map accepted old) (first_of old ++ marked group) (omega arith))
    ∙ map-append (λ (m : Marked). m.item) (first_of old) (marked group)
    ∙ ap (λ (l : List Record). items (first_of old) ++ l) (items_marked group)

-- the same feeds have the same
pub same_put : (old new : List Feed) → map accepted new ≡ map accepted old → items (first_of new) ≡ items (first_of old)
same_put old new same = ap (λ (l : List (List Marked)). items (slice_index_or l 0 [])) same

pub same_count : (old new : List Feed) → map ring_of_feed new ≡ map ring_of_feed old → length old ≡ 1 → length new ≡ 1
same_count old new same one =
    (let a = length-map old ring_of_feed in let b = length-map new ring_of_feed in let e = ap (λ (l : List Ring). length l) same in omega arith)

-- ---- the map

pub plain_more : (start : List Leaf) (rs group : List Record) → plain start (rs ++ group) ≡ fold changed_map (plain start rs) group
plain_more start rs group = fold-append changed_map (plain start []) rs group

pub plain_all : (start : List Leaf) (n : ℕ) (es : List Entry) → n ≡ length es → plain start (records (take n es)) ≡ plain start (records es)
plain_all start n es e = ap (λ (l : List Entry). plain start (records l)) (take_all n es (omega arith))

-- a group more was put: the map has its changes
pub put_changes : (start_old start_new : List Leaf) (old mid new : List Feed) (group : List Record) → start_new ≡ start_old → length old ≡ 1
    → map accepted mid ≡ slice_set (map accepted old) 0 (slice_index_or (map accepted old) 0 [] ++ marked group) → map accepted new ≡ map accepted mid
    → plain start_new (items (first_of new)) ≡ fold changed_map (plain start_old (items (first_of old))) group
put_changes start_old start_new old mid new group start one added same =
    ap (λ (s : List Leaf). plain s (items (first_of new))) start
    ∙ ap (λ (rs : List Record). plain start_old rs) (same_put mid new same ∙ one_more old mid group one added)
    ∙ plain_more start_old (items (first_of old)) group

-- all that was put is taken: nothing waits
pub now_put : (start : List Leaf) (feeds : List Feed) (es : List Entry) → length feeds ≡ 1 → streams 0 (length feeds) es ≡ map accepted feeds
    → All (λ e. e.writer < length feeds) es → plain start (records es) ≡ plain start (items (first_of feeds))
now_put start feeds es one exactly writers = ap (λ (rs : List Record). plain start rs) (sym (all_taken es feeds one exactly writers))

-- the same feeds, over the same start
pub same_map : (start_old start_new : List Leaf) (old new : List Feed) → start_new ≡ start_old → map accepted new ≡ map accepted old
    → plain start_new (items (first_of new)) ≡ plain start_old (items (first_of old))
same_map start_old start_new old new start same =
    ap (λ (s : List Leaf). plain s (items (first_of new))) start ∙ ap (λ (rs : List Record). plain start_old rs) (same_put old new same)
