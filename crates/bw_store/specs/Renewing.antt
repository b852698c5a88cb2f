-- What is left if segments were given up, or pages written again, and then what is durable was
-- published.

use Rattle.std.specs.Prelude.{ℕ, ◌≡◌, ◌⊎◌, Result, Ok, Err, List, take, drop}
use Rattle.bw_log.specs.Contents.{roster}
use Rattle.bw_care.specs.declared.cleaner.Cleaned.{Cleaned}
use Rattle.bw_care.specs.declared.upgrader.Upgraded.{Upgraded}
use Rattle.bw_core.specs.Cleaning as core
use Rattle.bw_core.specs.Counting as counts
use Rattle.bw_core.specs.Machine as machine
use Rattle.bw_core.specs.Rewriting as rewriting
use Rattle.bw_core.specs.Upgrading as upgrading
use Rattle.bw_care.specs.declared.tally.Tally.{Tally}
use Rattle.bw_terms.specs.declared.fault.StoreFault.{StoreFault}
use Rattle.bw_terms.specs.declared.fault.StoreFault.TheVariants.{NoMemory}
use Rattle.bw_store.specs.Kept.{Kept, Beside, core_of}
use Rattle.bw_store.specs.Showing.{ThenShows}

-- a cleaning, and then a publication
abbrev pub CleanShows : Kept → Result Cleaned StoreFault → Kept → Type 0
CleanShows old result new = ThenShows (λ r middle. Beside (λ o s. core.CleanLeaves o r s) old middle) result new

-- an upgrade, and then a publication
abbrev pub UpgradeShows : Kept → Result Upgraded StoreFault → Kept → Type 0
UpgradeShows old result new = ThenShows (λ r middle. Beside (λ o s. upgrading.UpgradeLeaves o r s) old middle) result new

-- these pages were written again, and then a publication
abbrev pub RewriteShows : Kept → List ℕ → Result ℕ StoreFault → Kept → Type 0
RewriteShows old pages result new =
    ThenShows (λ r middle. Beside (λ o s. rewriting.RewriteLeaves o pages r s) old middle) result new

-- the row of all boxes lacks its first so many on Ok, and also if nothing but the publication was
-- refused; it is the same else
abbrev pub HasBoxesAfter : {A : Type 0} → ℕ → Kept → Result A StoreFault → Kept → Type 0
HasBoxesAfter k old (Ok given) new = roster new.log ≡ drop k (roster old.log)
HasBoxesAfter k old (Err fault) new =
    (roster new.log ≡ roster old.log) ⊎ ((fault ≡ NoMemory) × (roster new.log ≡ drop k (roster old.log)))

-- the floor is what is durable if so many segments were given up, and what it was else
abbrev pub HasFloorAfter : {A : Type 0} → ℕ → Kept → Result A StoreFault → Kept → Type 0
HasFloorAfter k old (Ok given) new = new.floor ≡ new.durable
HasFloorAfter k old (Err fault) new =
    (new.floor ≡ old.floor)
    ⊎ ((fault ≡ NoMemory) × (new.floor ≡ new.durable) × (roster new.log ≡ drop k (roster old.log)))

-- what a stop leaves is found, as long as segments that were given up have what they had, and stand
-- before the others; no segment was given up unless the answer is Ok, or nothing but the
-- publication was refused
abbrev pub MayBeStoppedBefore : {A : Type 0} → ℕ → Kept → Result A StoreFault → Kept → Type 0
MayBeStoppedBefore k old (Ok given) new = machine.MayBeStoppedBefore (take k old.log.live) (core_of new)
MayBeStoppedBefore k old (Err fault) new =
    (roster new.log ≡ roster old.log) ⊎ machine.MayBeStoppedBefore (take k old.log.live) (core_of new)

-- what is counted is what the core's call counts; the publication counts nothing of it
abbrev pub CountsCleaning : Kept → Tally → Result Cleaned StoreFault → Kept → Tally → Type 0
CountsCleaning old t result new u =
    ThenShows (λ r middle. Beside (λ o s. counts.CountsClean o t r s u) old middle) result new

abbrev pub CountsUpgrade : Kept → Tally → Result Upgraded StoreFault → Kept → Tally → Type 0
CountsUpgrade old t result new u =
    ThenShows (λ r middle. Beside (λ o s. counts.CountsUpgraded o t r s u) old middle) result new
