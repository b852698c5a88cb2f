-- What a store keeps, as plain data, and what holds of it between calls: what its core keeps, and
-- what readers see.

use Rattle.std.specs.Prelude.{ℕ, ◌≡◌, ◌≤◌, List, [], take}
use mathlib.Core.List.{IsPrefix}
use Rattle.bw_record.specs.declared.leaf.Leaf.{Leaf}
use Rattle.bw_record.specs.declared.block.Place.{Place}
use Rattle.bw_record.specs.declared.block.Frame.{Frame}
use Rattle.bw_page.specs.Shown.{Shown}
use Rattle.bw_buffer.specs.Filling.{Filling}
use Rattle.bw_ring.specs.Ends.{Ring}
use Rattle.bw_versions.specs.Batches.{BatchData, entries_of}
use Rattle.bw_versions.specs.Versioned.{Versioned}
use Rattle.bw_history.specs.declared.entry.Entry.{Entry}
use Rattle.bw_log.specs.Contents as logs
use Rattle.bw_core.specs.declared.origin.Edge.{Edge}
use Rattle.bw_history.specs.History.{upto}
use Rattle.bw_core.specs.Kept.{Filed}
use Rattle.bw_core.specs.Kept as core

-- what a core keeps, and what readers see with the start that they see it from
pub record Kept : Type 0 where
  pub rings : List Ring
  pub start : List Leaf
  pub before : ℕ
  pub floor : ℕ
  pub edge : Edge
  pub entries : List Entry
  pub cuts : List ℕ
  pub durable : ℕ
  pub filed : Filed
  pub newest : List Place
  pub making : Filling
  pub log : logs.Contents
  pub versions : Versioned

-- a store as its core has it, without the readers
abbrev pub core_of : Kept → core.Kept
core_of s = record {
  rings = s.rings;
  start = s.start;
  before = s.before;
  floor = s.floor;
  edge = s.edge;
  entries = s.entries;
  cuts = s.cuts;
  durable = s.durable;
  filed = s.filed;
  newest = s.newest;
  making = s.making;
  log = s.log;
}

abbrev pub with_versions : core.Kept → Versioned → Kept
with_versions k versions = record {
  rings = k.rings;
  start = k.start;
  before = k.before;
  floor = k.floor;
  edge = k.edge;
  entries = k.entries;
  cuts = k.cuts;
  durable = k.durable;
  filed = k.filed;
  newest = k.newest;
  making = k.making;
  log = k.log;
  versions = versions;
}

-- a step of the core: what readers see stays
pub record Beside (step : core.Kept → core.Kept → Type 0) (old new : Kept) : Type 0 where
  pub base : step (core_of old) (core_of new)
  pub quiet : new.versions ≡ old.versions

-- the leaves at open or reopen, all of them in memory
abbrev pub start_of : Kept → Shown
start_of s = record { m = s.filed.m; leaves = s.start; evicted = [] }

-- each beginning of these batches is the history up to a durable cut
abbrev pub EndAtCuts : Kept → List BatchData → Type 0
EndAtCuts s batches =
    (n : ℕ) → (k : ℕ) × (k ≤ s.durable) × (entries_of (take n batches) ≡ upto s.cuts s.entries k)

-- readers start where the store did, their book has a beginning of the entries up to the durable
-- cut, and each of its batches ends at a cut
pub record AreVersions (s : Kept) : Type 0 where
  pub start : s.versions.start ≡ start_of s
  pub begins : IsPrefix (entries_of s.versions.entered) (upto s.cuts s.entries s.durable)
  pub ends : EndAtCuts s s.versions.entered

pub record IsSound (s : Kept) : Type 0 where
  pub base : core.IsSound (core_of s)
  pub shown : AreVersions s

-- each durable cut from the floor on: the counted frames up to it stand for the pages of the
-- history up to it
abbrev pub EachCutStands : Kept → Type 0
EachCutStands s = core.EachCutStands (core_of s)

abbrev pub TellsShare : Kept → Frame → Type 0
TellsShare s frame = core.TellsShare (core_of s) frame

-- ---- these batches are published, and these are in the book

abbrev pub with_batches : Kept → List BatchData → List BatchData → Kept
with_batches s published entered =
    record s { versions = record s.versions { published = published; entered = entered } }
