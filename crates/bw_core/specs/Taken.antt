-- A store after one record, and after the records of a group.

use Rattle.std.specs.Prelude.{ℕ, false, List, [], ◌∷◌}
use Rattle.bw_record.specs.declared.record.Record.{Record}
use Rattle.bw_record.specs.declared.block.Place.{Place}
use Rattle.bw_page.specs.Leaves.{applied}
use Rattle.bw_ring.specs.Marks.{Marked}
use Rattle.bw_making.specs.Adding.{blocks_for, places_after}
use Rattle.bw_core.specs.Kept.{Kept, with_record}
use Rattle.bw_core.specs.Fitting.{back_for, here_at, last_at}

abbrev pub taken : Kept → ℕ → Marked → Place → Kept
taken s writer m back =
    with_record s writer m (record s.filed { leaves = applied s.filed.m s.filed.leaves m.item })
    (places_after s.filed.m s.filed.leaves (here_at s m.item) (last_at s m.item) m.item s.newest)
    (blocks_for s.filed.m s.filed.leaves back (here_at s m.item) m.item)

-- a record that is a group of its own
abbrev pub alone : Record → Marked
alone r = record { item = r; more = false }

-- one record after the other, each with the last block of its page before
abbrev pub taken_all : Kept → ℕ → List Marked → Kept
taken_all s writer [] = s
taken_all s writer (m ∷ ms) = taken_all (taken s writer m (back_for s m.item)) writer ms
