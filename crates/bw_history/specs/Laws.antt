-- What holds of the machine, whatever it does.

use Rattle.std.specs.Prelude.{ℕ, ◌≡◌, ◌≤◌, ◌++◌, true, List, [], ◌∷◌, length, take}
use Rattle.std.specs.List.{AllByRecursion}
use Rattle.bw_leaf.specs.Changed.{Map}
use Rattle.bw_history.specs.declared.entry.Entry.{Entry}
use Rattle.bw_history.specs.History.{is_grouped}
use Rattle.bw_history.specs.Lives.{Life, Lives, left_of}
use Rattle.bw_history.specs.Machine.{Crash, IsMachine, Machine, MayLeave, Steps, Stops, TakesAndKeeps, TakesAndStops, TakesMany, after, begun, now}

-- what was durable is durable still, and is what it was
pub record NothingLost (old new : Machine) : Type 0 where
  pub lawful : IsMachine new
  pub start : new.start ≡ old.start
  pub durable : old.durable ≤ new.durable
  pub same : take old.durable new.entries ≡ take old.durable old.entries

-- no step loses what is durable, however many follow each other
abbrev pub DurableStays : Type 0
DurableStays = (n : ℕ) (old new : Machine) → IsMachine old → Steps n old new → NothingLost old new

-- what a stop leaves is a beginning of what was taken, in whole groups, and has all that was durable
pub record IsWholeBeginning (m : Machine) (left : List Entry) : Type 0 where
  pub begins : left ≡ take (length left) m.entries
  pub whole : is_grouped left ≡ true
  pub kept : take m.durable left ≡ take m.durable m.entries
  pub many : m.durable ≤ length left

abbrev pub StopsLeaveBeginnings : Type 0
StopsLeaveBeginnings = (m : Machine) (left : List Entry) → IsMachine m → MayLeave m left → IsWholeBeginning m left

-- the map that the lives before left of this one, and what was taken since
pub record Outlives (first : Machine) (lives : List Life) (here : Machine) : Type 0 where
  pub lawful : IsMachine here
  -- of each life a beginning of what it took, in whole groups, with all that was durable in it
  pub each : AllByRecursion (λ life. IsWholeBeginning life.last life.left) lives
  -- these one after the other are what was found, and nothing else is
  pub start : here.start ≡ after first.start (left_of lives)
  pub now : now here ≡ after first.start (left_of lives ++ here.entries)
  pub whole : is_grouped (left_of lives ++ here.entries) ≡ true

-- however many lives, steps and stops follow each other
abbrev pub LivesLoseNothing : Type 0
LivesLoseNothing = (first : Machine) (lives : List Life) (here : Machine) → IsMachine first → Lives first lives here → Outlives first lives here

-- ---- from calls to lives

-- what calls say of themselves are steps
pub record CallsAreSteps : Type 0 where
  pub takes : (n : ℕ) (old new : Machine) → TakesMany n old new → (k : ℕ) × Steps k old new
  pub stops : (old new : Machine) → Stops old new → (k : ℕ) × Steps k old new
  pub keeps : (old new : Machine) → TakesAndKeeps old new → (k : ℕ) × Steps k old new
  pub refused : (old new : Machine) → TakesAndStops old new → (k : ℕ) × Steps k old new

-- a store that was just opened is a machine, steps and stops are lives, and lives go on in lives
pub record LivesGoOn : Type 0 where
  pub opened : (start : Map) → IsMachine (begun start)
  pub steps : (n : ℕ) (old new : Machine) → Steps n old new → Lives old [] new
  pub crash : (old new : Machine) → Crash old new → (left : List Entry) × Lives old (record { last = old; left = left } ∷ []) new
  pub joined : (first : Machine) (before : List Life) (middle : Machine) (behind : List Life) (here : Machine) → Lives first before middle
      → Lives middle behind here → Lives first (before ++ behind) here
