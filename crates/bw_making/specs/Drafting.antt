-- A group that is planned record by record: what each record does to places, and what a look at
-- these rows says.

use Rattle.std.specs.Prelude.{ℕ, ◌+◌, ◌-◌, ◌≡◌, ◌≤◌, ◌==◌, ◌||◌, Bool, false, if◌then◌else◌, Option, Some, None, unwrap_or, List, [], ◌∷◌, ◌++◌, length, slice_get, slice_set}
use Rattle.std.specs.List.{fold}
use Rattle.bw_record.specs.declared.record.Record.{Record}
use Rattle.bw_record.specs.declared.leaf.Leaf.{Leaf}
use Rattle.bw_record.specs.declared.block.Place.{Place}
use Rattle.bw_record.specs.declared.block.Block.{Block}
use Rattle.bw_page.specs.Leaves.{directed_at}
use Rattle.bw_buffer.specs.Filling.{Filling}
use Rattle.bw_buffer.specs.Counting.{grown}
use Rattle.bw_buffer.specs.Joining.{joins, open_records, takes}
use Rattle.bw_making.specs.declared.draft.Row.{Row}
use Rattle.bw_making.specs.declared.draft.Draft.{Draft}
use Rattle.bw_making.specs.Adding.{Drawn, count_after, here_for, last_for, result_of, upper_if, planned, nowhere, drawn_by}

-- ---- what each record of a group does to the places

abbrev pub row_by : ℕ → Place → Place → ℕ → Option Leaf → Row
row_by page here last count None = record { page = page; made = None; place = here; records = Some count }
row_by page here last count (Some upper) = record { page = page; made = Some upper.page; place = last; records = None }

abbrev pub row_for : ℕ → Drawn → Record → Row
row_for m d r =
    row_by (directed_at d.leaves r) (here_for d.frame (directed_at d.leaves r)) (last_for d.frame (directed_at d.leaves r))
    (grown (open_records (directed_at d.leaves r) d.frame.blocks) 1) (upper_if m (length d.leaves + 1) (result_of d.leaves r))

abbrev pub rows_all : ℕ → Drawn → List Record → List Row
rows_all m d [] = []
rows_all m d (r ∷ rs) = row_for m d r ∷ rows_all m (drawn_by m d r) rs

-- the newest places after it
abbrev pub set_by : Option ℕ → ℕ → Place → List Place → List Place
set_by None page place newest = slice_set newest (page - 1) place
set_by (Some made) page place newest = slice_set newest (page - 1) place ++ place ∷ []

abbrev pub set_row : List Place → Row → List Place
set_row newest row = set_by row.made row.page row.place newest

-- each row's page is among the pages that there are when its turn comes
abbrev pub count_by : Option ℕ → ℕ → ℕ
count_by None n = n
count_by (Some made) n = n + 1

abbrev pub AreIn : ℕ → List Row → Type 0
AreIn n [] = Unit {0}
AreIn n (row ∷ rows) = ((1 ≤ row.page) × (row.page ≤ n)) × AreIn (count_by row.made n) rows

-- ---- what a look at the rows says

abbrev pub is_this : Option ℕ → ℕ → Bool
is_this None p = false
is_this (Some q) p = q == p

-- whether the record of a row changed this page, or made it
abbrev pub is_row_of : ℕ → Row → Bool
is_row_of p row = (row.page == p) || is_this row.made p

-- the last row of a page
abbrev pub row_in : List Row → ℕ → Option Row
row_in rows p = fold (λ (found : Option Row) (row : Row). if is_row_of p row then Some row else found) None rows

abbrev pub place_by : Option Row → Option Place → Option Place
place_by None was = was
place_by (Some row) was = Some row.place

-- the last block of a page, after these rows
abbrev pub place_in : List Row → List Place → ℕ → Option Place
place_in rows newest p = place_by (row_in rows p) (slice_get newest (p - 1))

abbrev pub records_by : Option Row → Option ℕ → Option ℕ
records_by None was = was
records_by (Some row) was = row.records

-- how many records it has, if that is a Delta of the frame in the making
abbrev pub records_in : List Row → List Block → ℕ → Option ℕ
records_in rows blocks p = records_by (row_in rows p) (open_records p blocks)

abbrev pub open_by : Option Row → Option ℕ → Option ℕ
open_by None was = was
open_by (Some row) was = if takes 1 row.records then Some row.place.index else None

-- its index, if that is a Delta of the frame in the making with room for one more record
abbrev pub open_in : List Row → List Block → ℕ → Option ℕ
open_in rows blocks p = open_by (row_in rows p) (joins p blocks)

-- ---- one record more

abbrev pub place_with : ℕ → ℕ → Place
place_with frame index = record { frame = frame; index = index }

-- one block more if a page is made
abbrev pub count_with : Option Leaf → ℕ → ℕ
count_with None count = count
count_with (Some upper) count = count + 1

pub record Added (old : Draft) (making : Filling) (newest : List Place) (item : Record) (page : ℕ) (upper : Option Leaf) (new : Draft) : Type 0 where
  pub blocks : new.blocks.items ≡ old.blocks.items ++ planned page (unwrap_or (place_in old.rows.items newest page) nowhere)
      (place_with making.frame (unwrap_or (open_in old.rows.items making.blocks page) old.count)) item upper
  pub rows : new.rows.items ≡ old.rows.items ++ row_by page (place_with making.frame (unwrap_or (open_in old.rows.items making.blocks page) old.count))
      (place_with making.frame (count_after (open_in old.rows.items making.blocks page) old.count))
      (grown (records_in old.rows.items making.blocks page) 1) upper ∷ []
  pub count : new.count ≡ count_with upper (count_after (open_in old.rows.items making.blocks page) old.count)
