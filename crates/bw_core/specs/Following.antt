-- What no call takes back.

use Rattle.std.specs.Prelude.{ℕ, zero, suc, ◌+◌, ◌*◌, ◌≡◌, ◌≤◌, ◌<◌, Bool, true, List, ◌++◌, length, drop, Result, MatchResult}
use Rattle.bw_log.specs.Contents.{roster}
use Rattle.bw_history.specs.declared.entry.Entry.{Entry}
use Rattle.bw_terms.specs.declared.fault.StoreFault.{StoreFault}
use Rattle.bw_core.specs.declared.turn.Count.{Count}
use Rattle.bw_terms.specs.declared.fault.TurnFault.{TurnFault}
use Rattle.bw_history.specs.History.{ends_in}
use Rattle.bw_core.specs.Kept.{Kept}
use Rattle.bw_ring.specs.declared.lane.Lane.{Lane}
use Rattle.bw_core.specs.Taking.{RefusesNext, Took}

-- what no call takes back: the old history and cuts begin the new ones, no frame is forgotten, and
-- where the store began stays
pub record Continues (old new : Kept) : Type 0 where
  -- which feed is a lane's, and how many writers there are
  pub rings : new.rings ≡ old.rings
  pub start : new.start ≡ old.start
  pub before : new.before ≡ old.before
  -- the most pairs of a page
  pub m : new.filed.m ≡ old.filed.m
  pub edge : new.edge ≡ old.edge
  pub entries_more : List Entry
  pub history : new.entries ≡ old.entries ++ entries_more
  pub cuts_more : List ℕ
  pub cuts : new.cuts ≡ old.cuts ++ cuts_more
  pub appended : old.durable ≤ new.durable
  pub floor : old.floor ≤ new.floor

-- what a call does not take back that gives up no segment: the floor, too, is what it was
pub record Follows (old new : Kept) : Type 0 where
  pub continues : Continues old new
  pub floor : new.floor ≡ old.floor

-- each box is where it was in the row of all
pub record HasBoxes (old new : Kept) : Type 0 where
  pub same : roster new.log ≡ roster old.log

-- a call that gives up no segment, by which the history grew by so many entries
pub record Turned (n : ℕ) (old new : Kept) : Type 0 where
  pub follows : Follows old new
  pub boxes : HasBoxes old new
  pub grew : length new.entries ≡ length old.entries + n

-- so many groups, one after the other
abbrev pub Takes : ℕ → Kept → Kept → Type 0
Takes zero old new = new ≡ old
Takes (suc n) old new = (middle : Kept) × Takes n old middle × ((lane : ℕ) × Took lane middle new)

-- how many groups came since
abbrev pub groups_since : Kept → Kept → ℕ
groups_since old new = ends_in (drop (length old.entries) new.entries)

-- so many records were taken, group after group; if an append failed before, none was
pub record TookInTurn (n : ℕ) (old new : Kept) : Type 0 where
  pub turned : Turned n old new
  pub each : Takes (groups_since old new) old new
  pub few : (groups_since old new ≤ n) × (n ≤ 4 * groups_since old new)
  pub works : new.log.is_failed ≡ true → (n ≡ 0) × (new ≡ old)

-- so many records were taken, group after group, and then a group was refused, which is still the
-- first of its lane
pub record RefusedAfter (n : ℕ) (old : Kept) (lanes : List Lane) (away : ℕ → Bool) (cause : StoreFault) (new : Kept) : Type 0 where
  pub middle : Kept
  pub took : TookInTurn n old middle
  pub lane : ℕ
  pub refuses : RefusesNext lane lanes away middle cause new

-- so many records were taken, in so many groups
abbrev pub TookGroups : ℕ → ℕ → Kept → Kept → Type 0
TookGroups groups n old new = TookInTurn n old new × (groups_since old new ≡ groups)

-- some records were taken, group after group, whatever their number
abbrev pub TookSome : Kept → Kept → Type 0
TookSome old new = (n : ℕ) × TookInTurn n old new

abbrev pub RefusedAt : Kept → List Lane → (ℕ → Bool) → StoreFault → Kept → Type 0
RefusedAt old lanes away cause new = (n : ℕ) × RefusedAfter n old lanes away cause new

-- a round goes on after what was taken before: it says all that was taken since the first, or why
-- no more was, before so many groups were taken
abbrev pub TurnsOn : ℕ → Count → Kept → Result Count TurnFault → List Lane → (ℕ → Bool) → Kept → Type 0
TurnsOn limit taken old result lanes away new =
    (first : Kept) → TookGroups taken.groups taken.records first old → MatchResult result
    (λ count. TookGroups count.groups count.records first new)
    (λ fault. RefusedAfter fault.taken first lanes away fault.cause new × (groups_since first new < limit))
