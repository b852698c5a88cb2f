-- A store with readers as the machine that it is.

use Rattle.std.specs.Prelude.{◌≡◌, ◌⊎◌, MatchResult, Result, length}
use Rattle.bw_versions.specs.Posted.{entries_in, posted_of}
use Rattle.bw_history.specs.Machine.{Machine, Stops, TakesAndKeeps, keeps, shows}
use Rattle.bw_core.specs.Machine as core
use Rattle.bw_terms.specs.declared.fault.StoreFault.{StoreFault}
use Rattle.bw_store.specs.Kept.{EachCutStands, Kept, core_of}

-- what a store took and kept, and how much of it is published
abbrev pub machine_of : Kept → Machine
machine_of s = record (core.machine_of (core_of s)) { shown = length (entries_in (posted_of s.versions.published)) }

-- a call that keeps all that was taken, and then shows it; a refusal may come before or after that
abbrev pub ShowsAs : {A : Type 0} → Result A StoreFault → Kept → Kept → Type 0
ShowsAs result old new =
    MatchResult result (λ _. machine_of new ≡ shows (keeps (machine_of old)))
    (λ _. (machine_of new ≡ keeps (machine_of old)) ⊎ Stops (machine_of old) (machine_of new))

-- groups are taken, all that was taken is kept, and then shown
abbrev pub TakesKeepsShows : Machine → Machine → Type 0
TakesKeepsShows old new = (middle : Machine) × TakesAndKeeps old middle × (new ≡ shows middle)

-- what recovery finds, were the store stopped now: if no call appends, or in the middle of the
-- append that failed
abbrev pub MayBeStopped : Kept → Type 0
MayBeStopped s = core.MayBeStopped (core_of s)

-- a call that keeps all that was taken and shows it, as the machine: each cut stands after it, and
-- what a stop leaves is found
pub record RunsAs {A : Type 0} (old : Kept) (result : Result A StoreFault) (new : Kept) : Type 0 where
  pub each_cut : EachCutStands new
  pub steps : ShowsAs result old new
  pub may_leave : MayBeStopped new
