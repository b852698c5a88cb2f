-- What a cleaning of a home leaves: it renews what was given up before, cleans the store, and
-- renews that segment too.

use Rattle.std.specs.Prelude.{◌≡◌, ◌⊎◌, IfOk, Result, Ok, Err, take}
use Rattle.bw_care.specs.declared.cleaner.Cleaned.{Cleaned}
use Rattle.bw_core.specs.Cleaning.{CleanLeaves, HasBoxesBut, HasFloorBut}
use Rattle.bw_core.specs.Counting.{CountsClean}
use Rattle.bw_core.specs.Kept.{Kept}
use Rattle.bw_core.specs.Machine.{MayBeStoppedBefore}
use Rattle.bw_core.specs.Noted.{Noted}
use Rattle.bw_terms.specs.declared.fault.StoreFault.{StoreFault}
use Rattle.bw_store.specs.Kept as shared
use Rattle.bw_store.specs.Renewing.{CleanShows, CountsCleaning, HasBoxesAfter, HasFloorAfter}
use Rattle.bw_store.specs.Renewing as renewing
use Rattle.bw_site.specs.Faults.{fault_of_store, IsOfSite}
use Rattle.bw_site.specs.declared.fault.HomeFault.{HomeFault}

-- what a store says of its own cleaning, by its answer
pub record StoreCleans (old : Kept) (was : Noted) (result : Result Cleaned StoreFault) (new : Kept) (now : Noted) : Type 0 where
  pub leaves : CleanLeaves old result new
  pub floor : HasFloorBut old result new
  pub boxes : HasBoxesBut 1 old result new
  pub gone : now.gone ≡ was.gone
  pub counts : CountsClean old was.tally result new now.tally
  -- what a stop leaves is found, even if the file of the segment that was given up has what it had
  pub before : IfOk result (λ _. MayBeStoppedBefore (take 1 old.log.live) new)

-- a cleaning of a home; if it is refused, the store is as it was, or it was refused too, or it was
-- cleaned
abbrev pub HomeCleans : Kept → Noted → Result Cleaned HomeFault → Kept → Noted → Type 0
HomeCleans old was (Ok cleaned) new now = StoreCleans old was (Ok cleaned) new now
HomeCleans old was (Err fault) new now =
    (IsOfSite fault × (new ≡ old) × (now ≡ was))
    ⊎ (((cause : StoreFault) × (fault ≡ fault_of_store cause) × StoreCleans old was (Err cause) new now)
    ⊎ (IsOfSite fault × ((cleaned : Cleaned) × StoreCleans old was (Ok cleaned) new now)))

-- ---- with readers

-- what a store with readers says of its own cleaning, by its answer
pub record StoreShows (old : shared.Kept) (was : Noted) (result : Result Cleaned StoreFault) (new : shared.Kept) (now : Noted) : Type 0 where
  pub leaves : CleanShows old result new
  pub floor : HasFloorAfter 1 old result new
  pub boxes : HasBoxesAfter 1 old result new
  pub gone : now.gone ≡ was.gone
  pub counts : CountsCleaning old was.tally result new now.tally
  pub before : renewing.MayBeStoppedBefore 1 old result new

-- a cleaning of a home with readers, as that of one without
abbrev pub SharedCleans : shared.Kept → Noted → Result Cleaned HomeFault → shared.Kept → Noted → Type 0
SharedCleans old was (Ok cleaned) new now = StoreShows old was (Ok cleaned) new now
SharedCleans old was (Err fault) new now =
    (IsOfSite fault × (new ≡ old) × (now ≡ was))
    ⊎ (((cause : StoreFault) × (fault ≡ fault_of_store cause) × StoreShows old was (Err cause) new now)
    ⊎ (IsOfSite fault × ((cleaned : Cleaned) × StoreShows old was (Ok cleaned) new now)))
