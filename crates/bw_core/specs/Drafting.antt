-- A group that is planned record by record: what is known of it so far.

use Rattle.std.specs.Prelude.{ℕ, ◌-◌, ◌≡◌, ◌≤◌, false, Some, List, length, map, slice_get}
use Rattle.std.specs.List.{fold, AllByRecursion}
use Rattle.bw_codec.specs.Grammar.{IsBlock}
use Rattle.bw_record.specs.declared.record.Record.{Record}
use Rattle.bw_page.specs.Leaves.{HasPages}
use Rattle.bw_buffer.specs.Filling.{size_of}
use Rattle.bw_buffer.specs.Joining.{joins, open_records}
use Rattle.bw_making.specs.Adding.{Drawn, drawn_by}
use Rattle.bw_making.specs.Drafting.{open_in, place_in, records_in, rows_all}
use Rattle.bw_making.specs.declared.draft.Draft.{Draft}
use Rattle.bw_core.specs.Fitting.{Fits, drawn_of, group_blocks}
use Rattle.bw_core.specs.Kept.{Kept, IsSound}
use Rattle.bw_core.specs.Taken.{alone, taken_all}

-- ---- a draft of the first records of a group

abbrev pub drawn_behind : Kept → List Record → Drawn
drawn_behind s done = fold (drawn_by s.filed.m) (drawn_of s) done

pub record IsAhead (s : Kept) (done : List Record) (draft : Draft) : Type 0 where
  pub blocks : draft.blocks.items ≡ group_blocks s done
  pub lawful : AllByRecursion (IsBlock 32) draft.blocks.items
  pub rows : draft.rows.items ≡ rows_all s.filed.m (drawn_of s) done
  pub count : draft.count ≡ length (drawn_behind s done).frame.blocks
  pub places : (p : ℕ) → 1 ≤ p → p ≤ length (drawn_behind s done).leaves
      → place_in draft.rows.items s.newest p ≡ slice_get (drawn_behind s done).newest (p - 1)
  pub opens : (p : ℕ) → 1 ≤ p → p ≤ length (drawn_behind s done).leaves
      → open_in draft.rows.items s.making.blocks p ≡ joins p (drawn_behind s done).frame.blocks
  pub records : (p : ℕ) → 1 ≤ p → p ≤ length (drawn_behind s done).leaves
      → records_in draft.rows.items s.making.blocks p ≡ open_records p (drawn_behind s done).frame.blocks

-- the store as it would be after these records of a lane
abbrev pub behind : Kept → ℕ → List Record → Kept
behind s lane done = taken_all s lane (map alone done)

pub record Stands (s : Kept) (lane : ℕ) (done : List Record) : Type 0 where
  pub sound : IsSound (behind s lane done)
  pub next : (behind s lane done).log.next ≡ Some (behind s lane done).making.frame
  pub fits : size_of (behind s lane done).making ≤ (behind s lane done).making.limit
  pub works : (behind s lane done).log.is_failed ≡ false

-- ---- the draft of a whole group

pub record IsDraft (s : Kept) (group : List Record) (draft : Draft) : Type 0 where
  pub blocks : draft.blocks.items ≡ group_blocks s group
  pub lawful : AllByRecursion (IsBlock 32) draft.blocks.items
  pub rows : draft.rows.items ≡ rows_all s.filed.m (drawn_of s) group
  pub fits : Fits s group
  pub room : HasPages s.filed.m s.filed.leaves group
