-- What a run of turns, flushes and cleanings leaves of a store, and why it ends early.

use Rattle.std.specs.Prelude.{ℕ, zero, suc, ◌≡◌, ◌≤◌, ◌⊎◌, Bool, Err, List, length, drop}
use Rattle.bw_log.specs.Contents.{roster}
use Rattle.bw_terms.specs.declared.fault.StoreFault.{StoreFault}
use Rattle.bw_terms.specs.declared.fault.StoreFault.TheVariants.{NoMemory}
use Rattle.bw_store.specs.Kept.{Kept}
use Rattle.bw_ring.specs.declared.lane.Lane.{Lane}
use Rattle.bw_store.specs.Following.{Continues, HasBoxes, RefusedAt}
use Rattle.bw_core.specs.Faults.{FlushAnswers}
use Rattle.bw_store.specs.Renewing.{CleanShows}
use Rattle.bw_store.specs.Showing.{FlushShows, SettleRefuses, flush_refusal}

-- the boxes are the old ones without some of the first
pub record LosesSome (old new : Kept) : Type 0 where
  pub count : ℕ
  pub rest : roster new.log ≡ drop count (roster old.log)

-- if nothing is ever cleaned, each box is where it was in the row of all
abbrev pub Boxes : ℕ → Kept → Kept → Type 0
Boxes zero old new = HasBoxes old new
Boxes (suc n) old new = LosesSome old new

-- the floor is what was durable when a segment was given up on the way
pub record GaveUp (old new : Kept) : Type 0 where
  pub before : Kept
  pub after : Kept
  pub reached : Continues old before
  pub gone : roster after.log ≡ drop 1 (roster before.log)
  pub cleaned : Continues before after
  pub at : after.floor ≡ after.durable
  pub rest : Continues after new
  pub floor : new.floor ≡ after.floor

-- if nothing is ever cleaned, the floor stays
abbrev pub Floors : ℕ → Kept → Kept → Type 0
Floors zero old new = new.floor ≡ old.floor
Floors (suc n) old new = (new.floor ≡ old.floor) ⊎ GaveUp old new

-- calls one after the other; segments are given up if so many are live, or never
pub record Runs (clean_at : ℕ) (old new : Kept) : Type 0 where
  pub continues : Continues old new
  pub boxes : Boxes clean_at old new
  pub floor : Floors clean_at old new

-- ---- the first refusal

-- of a flush
abbrev pub FlushRefused : Kept → StoreFault → Kept → Type 0
FlushRefused old cause new = FlushAnswers (flush_refusal old) (Err cause) × FlushShows old (Err cause) new

-- a cleaning is tried only if so many segments are live
abbrev pub CleanRefused : ℕ → Kept → StoreFault → Kept → Type 0
CleanRefused clean_at old cause new = (1 ≤ clean_at) × (clean_at ≤ length old.log.live) × CleanShows old (Err cause) new

-- a turn was refused, a flush, a cleaning, or the last settle
abbrev pub CallRefused : ℕ → Kept → StoreFault → Kept → Type 0
CallRefused clean_at old cause new =
    ((lanes : List Lane) × (away : ℕ → Bool) × RefusedAt old lanes away cause new)
    ⊎ (FlushRefused old cause new ⊎ (CleanRefused clean_at old cause new ⊎ ((lanes : List Lane) × (away : ℕ → Bool) × SettleRefuses old lanes away cause new)))

-- a call was refused, and none came after it
pub record StopsAfter (clean_at : ℕ) (old : Kept) (cause : StoreFault) (new : Kept) : Type 0 where
  pub before : Kept
  pub ran : Runs clean_at old before
  pub refused : CallRefused clean_at before cause new

-- not every writer could be started, and the store was left as it was; or a call was refused
abbrev pub Stops : ℕ → Kept → StoreFault → Kept → Type 0
Stops clean_at old cause new = ((cause ≡ NoMemory) × (new ≡ old)) ⊎ StopsAfter clean_at old cause new
