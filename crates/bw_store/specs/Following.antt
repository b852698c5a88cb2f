-- What no call takes back.

use Rattle.std.specs.Prelude.{ℕ, ◌≡◌, Bool, List, ◌++◌}
use Rattle.bw_versions.specs.Batches.{BatchData}
use Rattle.bw_ring.specs.declared.lane.Lane.{Lane}
use Rattle.bw_terms.specs.declared.fault.StoreFault.{StoreFault}
use Rattle.bw_core.specs.Following as core
use Rattle.bw_core.specs.Rounds as rounds
use Rattle.bw_store.specs.Kept.{Kept, core_of, Beside}

-- what no call takes back: that of the core, what was published, and the readers' book
pub record Continues (old new : Kept) : Type 0 where
  pub base : core.Continues (core_of old) (core_of new)
  pub book : new.versions.book ≡ old.versions.book
  pub batches_more : List BatchData
  pub published : new.versions.published ≡ old.versions.published ++ batches_more

-- what a call does not take back that gives up no segment: the floor, too, is what it was
pub record Follows (old new : Kept) : Type 0 where
  pub continues : Continues old new
  pub floor : new.floor ≡ old.floor

-- each box is where it was in the row of all
abbrev pub HasBoxes : Kept → Kept → Type 0
HasBoxes old new = core.HasBoxes (core_of old) (core_of new)

-- ---- the core's words, of calls that publish nothing

-- a call that gives up no segment, by which the history grew by so many entries
abbrev pub Turned : ℕ → Kept → Kept → Type 0
Turned n old new = Beside (core.Turned n) old new

-- how many groups came since
abbrev pub groups_since : Kept → Kept → ℕ
groups_since old new = core.groups_since (core_of old) (core_of new)

-- no lane is passed over that knows of a group
abbrev pub IsFair : List Lane → Kept → Kept → Type 0
IsFair lanes old new = rounds.IsFair lanes (core_of old) (core_of new)

-- so many records were taken, group after group; if an append failed before, none was
abbrev pub TookInTurn : ℕ → Kept → Kept → Type 0
TookInTurn n old new = Beside (core.TookInTurn n) old new

-- and then a group was refused, which is still the first of its lane
abbrev pub RefusedAfter : ℕ → Kept → List Lane → (ℕ → Bool) → StoreFault → Kept → Type 0
RefusedAfter n old lanes away cause new = Beside (λ o s. core.RefusedAfter n o lanes away cause s) old new

-- some records were taken, group after group, whatever their number
abbrev pub TookSome : Kept → Kept → Type 0
TookSome old new = Beside core.TookSome old new

abbrev pub RefusedAt : Kept → List Lane → (ℕ → Bool) → StoreFault → Kept → Type 0
RefusedAt old lanes away cause new = Beside (λ o s. core.RefusedAt o lanes away cause s) old new
