-- What takes records back, one after the other.

use Rattle.std.specs.Prelude.{◌≡◌, ◌≤◌, ◌+◌, false, not, nat_le, if◌then◌else◌, Option, Some, None, List, [], ◌∷◌, length, take}
use Rattle.std.specs.List.{AllByRecursion}
use Rattle.std.specs.FinMap.Entries.{find}
use Rattle.bw_record.specs.Lawful.{IsOp}
use Rattle.bw_record.specs.Record.{key_of}
use Rattle.bw_record.specs.declared.record.Record.{Record}
use Rattle.bw_page.specs.declared.journal.Undo.{Undo}
use Rattle.bw_page.specs.declared.journal.Undo.TheVariants.{Back, Page}
use Rattle.bw_page.specs.Displaced.{Displaced}
use Rattle.bw_leaf.specs.Changed.{order}
use Rattle.bw_page.specs.Leaves.{home, result_of, with_leaf, HasPage, HasPages, AreLeaves}
use Rattle.bw_leaf.specs.Seek.{back_of}
use Rattle.bw_page.specs.Shown.{Shown, IsHere, is_evicted_page}
use Rattle.bw_page.specs.Batch.{AreHere, NoneBeyond}
pub use Rattle.bw_page.specs.Shown.{after_record, run}

-- the leaf that a record displaces
abbrev pub displaced_by : Shown → Record → Displaced
displaced_by f r = record {
  leaf = home (key_of r) f.leaves;
  pages = length f.leaves;
  key = key_of r;
  is_split = not (nat_le (length (result_of f.leaves r).pairs) f.m);
}

abbrev pub undo_by : Option Record → Displaced → Undo
undo_by (Some back) d = Back back
undo_by None d = Page d

-- what takes a record back: a record that adds no pair, if there is one and the page is not split; else the displaced leaf
abbrev pub undo_of : Shown → Record → Undo
undo_of f r =
    if nat_le (length (result_of f.leaves r).pairs) f.m
    then undo_by (back_of r (find order (key_of r) (home (key_of r) f.leaves).pairs)) (displaced_by f r)
    else Page (displaced_by f r)

abbrev pub journal_of : Shown → List Record → List Undo
journal_of f [] = []
journal_of f (r ∷ rs) = undo_of f r ∷ journal_of (after_record f r) rs

-- a record's leaf changed once more; or a displaced leaf in its place again, and the page after all
-- others gone that was not there
abbrev pub undone : Shown → Undo → Shown
undone f (Back back) = record f { leaves = with_leaf f.leaves (result_of f.leaves back) }
undone f (Page d) = record f { leaves = with_leaf (take d.pages f.leaves) d.leaf }

-- the newest first
abbrev pub all_undone : Shown → List Undo → Shown
all_undone f [] = f
all_undone f (u ∷ us) = undone (all_undone f us) u

-- leaves after records, with what these displaced
pub record Ran (start : Shown) (records : List Record) (now : Shown) (journal : List Undo) : Type 0 where
  pub some : 1 ≤ start.m
  pub here : AreHere start records
  pub beyond : NoneBeyond start
  pub lawful : AreLeaves start.m start.leaves
  pub ops : AllByRecursion IsOp records
  pub room : HasPages start.m start.leaves records
  pub is : now ≡ run start records
  pub displaced : journal ≡ journal_of start records

-- a journal that takes back to these leaves
abbrev pub GoesBack : Shown → Shown → List Undo → Type 0
GoesBack start now journal = (records : List Record) × Ran start records now journal

-- a journal of records that were applied
abbrev pub IsJournal : Shown → List Undo → Type 0
IsJournal now journal = (start : Shown) × (records : List Record) × Ran start records now journal

-- what the newest record displaced
pub record IsNewest (now : Shown) (undo : Undo) : Type 0 where
  pub before : Shown
  pub change : Record
  pub some : 1 ≤ before.m
  pub here : IsHere (key_of change) before
  pub beyond : is_evicted_page (length before.leaves + 1) before ≡ false
  pub lawful : AreLeaves before.m before.leaves
  pub op : IsOp change
  pub room : HasPage before.m before.leaves change
  pub is : now ≡ after_record before change
  pub displaced : undo ≡ undo_of before change
