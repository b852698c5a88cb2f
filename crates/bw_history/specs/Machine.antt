-- The machine that a store is: the map that it began with, what was taken since, how much of that a stop leaves, and how much
-- of it readers see. Pages, frames and segments are how a store does it; this is what it does.

use Rattle.std.specs.Prelude.{ℕ, zero, suc, ◌≡◌, ◌≤◌, ◌⊎◌, ◌++◌, true, List, [], length, take}
use Rattle.std.specs.List.{fold}
use Rattle.bw_leaf.specs.Changed.{Map, changed_map}
use Rattle.bw_history.specs.declared.entry.Entry.{Entry}
use Rattle.bw_history.specs.Entries.{records}
use Rattle.bw_history.specs.History.{ends_in, is_grouped}

pub record Machine : Type 0 where
  -- the map that it began with: none, or what was found of the life before
  pub start : Map
  -- all that was taken, in the order in which it was taken
  pub entries : List Entry
  -- how many of them are durable: every stop leaves them
  pub durable : ℕ
  -- how many of them a stop may leave: more than are durable only if an append failed, of which all
  -- may have been written
  pub written : ℕ
  -- how many of them readers see
  pub shown : ℕ

-- a map as these entries leave it
abbrev pub after : Map → List Entry → Map
after map entries = fold changed_map map (records entries)

-- as all that was taken leaves it: this is what is looked at
abbrev pub now : Machine → Map
now m = after m.start m.entries

-- ---- steps

-- one writer's records, all of one group
abbrev pub IsGroup : List Entry → Type 0
IsGroup group = (is_grouped group ≡ true) × (ends_in group ≡ 1)

-- a group is taken: it goes after all that was taken before
abbrev pub takes : List Entry → Machine → Machine
takes group m = record m { entries = m.entries ++ group }

-- all that was taken is kept
abbrev pub keeps : Machine → Machine
keeps m = record m { durable = length m.entries; written = length m.entries }

-- it was to be kept, and the append failed
abbrev pub breaks : Machine → Machine
breaks m = record m { written = length m.entries }

-- readers see what is durable
abbrev pub shows : Machine → Machine
shows m = record m { shown = m.durable }

abbrev pub Step : Machine → Machine → Type 0
Step old new =
    ((group : List Entry) × IsGroup group × (new ≡ takes group old))
    ⊎ ((new ≡ keeps old) ⊎ ((new ≡ breaks old) ⊎ (new ≡ shows old)))

abbrev pub Steps : ℕ → Machine → Machine → Type 0
Steps zero old new = new ≡ old
Steps (suc n) old new = (middle : Machine) × Steps n old middle × Step middle new

-- ---- stops

-- the entries that a stop leaves
abbrev pub MayLeave : Machine → List Entry → Type 0
MayLeave m left = (left ≡ take m.durable m.entries) ⊎ (left ≡ take m.written m.entries)

-- a machine that begins with this map: nothing was taken yet
abbrev pub begun : Map → Machine
begun start = record { start = start; entries = []; durable = 0; written = 0; shown = 0 }

-- a stop, and a store that goes on from what it left
abbrev pub Crash : Machine → Machine → Type 0
Crash old new = (left : List Entry) × MayLeave old left × (new ≡ begun (after old.start left))

-- ---- what holds between steps

pub record IsMachine (m : Machine) : Type 0 where
  -- no group is there in part, and no stop leaves one in part
  pub whole : is_grouped m.entries ≡ true
  pub kept : is_grouped (take m.durable m.entries) ≡ true
  pub left : is_grouped (take m.written m.entries) ≡ true
  pub shown : m.shown ≤ m.durable
  pub durable : m.durable ≤ m.written
  pub written : m.written ≤ length m.entries

-- ---- steps of calls

-- a group is taken; before it, what was taken may be kept
abbrev pub TakesOne : Machine → Machine → Type 0
TakesOne old new = (group : List Entry) × IsGroup group × ((new ≡ takes group old) ⊎ (new ≡ takes group (keeps old)))

-- so many groups are, one after the other
abbrev pub TakesMany : ℕ → Machine → Machine → Type 0
TakesMany zero old new = new ≡ old
TakesMany (suc n) old new = (middle : Machine) × TakesMany n old middle × TakesOne middle new

-- nothing is done, or an append failed
abbrev pub Stops : Machine → Machine → Type 0
Stops old new = (new ≡ old) ⊎ (new ≡ breaks old)

-- groups are taken, and then all that was taken is kept
abbrev pub TakesAndKeeps : Machine → Machine → Type 0
TakesAndKeeps old new = (n : ℕ) × (middle : Machine) × TakesMany n old middle × (new ≡ keeps middle)

-- groups are taken, and then the next step was refused: what was taken may have been kept before
abbrev pub TakesAndStops : Machine → Machine → Type 0
TakesAndStops old new = (n : ℕ) × (middle : Machine) × TakesMany n old middle × ((new ≡ keeps middle) ⊎ Stops middle new)
