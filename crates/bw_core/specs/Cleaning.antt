-- What a cleaning leaves.

use Rattle.std.specs.Prelude.{ℕ, ◌+◌, ◌<◌, ◌≤◌, ◌≡◌, Result, Ok, Err, [], ◌++◌, length, replicate, drop}
use Rattle.bw_record.specs.declared.block.Place.{Place}
use Rattle.std.specs.Prelude.{List}
use Rattle.bw_buffer.specs.Filling.{Filling}
use Rattle.bw_log.specs.Contents as logs
use Rattle.bw_care.specs.Moving as care
use Rattle.bw_care.specs.declared.cleaner.Cleaned.{Cleaned}
use Rattle.bw_care.specs.declared.fault.CleanFault.{CleanFault}
use Rattle.bw_terms.specs.declared.fault.StoreFault.{StoreFault}
use Rattle.bw_terms.specs.declared.fault.StoreFault.TheVariants.{NothingOld}
use Rattle.bw_core.specs.Kept.{Kept}
use Rattle.bw_terms.specs.Told.{fault_of_clean}
use Rattle.bw_core.specs.Emptied.{Behind, WhereSome}

-- so many frames of the cleaner's were added, each with a cut at the end of the history
abbrev pub with_moved : Kept → ℕ → ℕ → List Place → Filling → logs.Contents → Kept
with_moved s frames floor newest making log = record s {
  floor = floor;
  cuts = s.cuts ++ replicate frames (length s.entries);
  durable = s.durable + frames;
  newest = newest;
  making = making;
  log = log;
}

-- so many frames were added in a store in which nothing waited, the floor is this, and of the log
-- this holds
pub record HasMoved (old : Kept) (frames floor : ℕ) (holds : logs.Contents → Type 0) (new : Kept) : Type 0 where
  pub is : new ≡ with_moved old frames floor new.newest new.making new.log
  pub empty : new.making.blocks ≡ []
  pub log : holds new.log

-- some frames were added, then a step was refused: no segment was given up
pub record HasStopped (old : Kept) (holds : logs.Contents → Type 0) (new : Kept) : Type 0 where
  pub frames : ℕ
  pub is : new ≡ with_moved old frames old.floor new.newest new.making new.log
  pub empty : new.making.blocks ≡ []
  pub log : holds new.log

-- segments are given up in a store in which nothing waits: from here on the floor is what is
-- durable
abbrev pub GivesUp : {A : Type 0} → (A → ℕ) → (logs.Contents → A → logs.Contents → Type 0)
    → (CleanFault → logs.Contents → logs.Contents → Type 0) → Kept → Result A StoreFault → Kept → Type 0
GivesUp frames done refuses old (Ok x) new = HasMoved old (frames x) (old.durable + frames x) (done old.log x) new
GivesUp frames done refuses old (Err fault) new =
    (cause : CleanFault) × (fault ≡ fault_of_clean cause) × HasStopped old (refuses cause old.log) new

-- the cleaner, in a store in which nothing waits
abbrev pub MoveLeaves : Kept → Result Cleaned StoreFault → Kept → Type 0
MoveLeaves old result new = GivesUp (λ (c : Cleaned). c.frames) care.IsCleaned care.Refuses old result new

-- a cleaning of a store: the number of live segments is looked at first
abbrev pub CleanLeaves : Kept → Result Cleaned StoreFault → Kept → Type 0
CleanLeaves old result new = WhereSome (2 ≤ length old.log.live) (length old.log.live < 2) NothingOld (Behind MoveLeaves) old result new

-- the row of all boxes lacks its first so many on Ok, and is the same else
abbrev pub HasBoxesBut : {A : Type 0} → ℕ → Kept → Result A StoreFault → Kept → Type 0
HasBoxesBut k old (Ok given) new = logs.roster new.log ≡ drop k (logs.roster old.log)
HasBoxesBut k old (Err fault) new = logs.roster new.log ≡ logs.roster old.log

-- the floor is what is durable on Ok, and stays else
abbrev pub HasFloorBut : {A : Type 0} → Kept → Result A StoreFault → Kept → Type 0
HasFloorBut old (Ok given) new = new.floor ≡ new.durable
HasFloorBut old (Err fault) new = new.floor ≡ old.floor
