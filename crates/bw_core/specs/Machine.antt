-- A store as the machine that it is, and what recovery finds of it.

use Rattle.std.specs.Prelude.{ℕ, ◌≡◌, ◌⊎◌, MatchResult, Result, List, ◌++◌, drop, length}
use Rattle.bw_device.specs.Holding.{Holding}
use Rattle.bw_page.specs.Leaves.{pages, union}
use Rattle.bw_log.specs.Contents.{boxes}
use Rattle.bw_care.specs.Recovery.{recovery}
use Rattle.bw_lines.specs.declared.cause.RecoverCause.TheVariants.{Empty}
use Rattle.bw_history.specs.declared.entry.Entry.{Entry}
use Rattle.bw_history.specs.Entries.{records}
use Rattle.bw_history.specs.History.{cut}
use Rattle.bw_history.specs.Machine.{Machine, MayLeave, Stops, keeps}
use Rattle.bw_terms.specs.declared.fault.StoreFault.{StoreFault}
use Rattle.bw_core.specs.Kept.{EachCutStands, Kept}

-- what a store took and kept; nobody else reads a core
abbrev pub machine_of : Kept → Machine
machine_of s = record { start = union s.start; entries = s.entries; durable = cut s.cuts s.durable; written = cut s.cuts (length s.cuts); shown = 0 }

-- if segments are given up or pages written again, all that was taken is kept before; a refusal may
-- come before or after that
abbrev pub KeepsAs : {A : Type 0} → Result A StoreFault → Kept → Kept → Type 0
KeepsAs result old new =
    MatchResult result (λ _. machine_of new ≡ keeps (machine_of old))
    (λ _. (machine_of new ≡ keeps (machine_of old)) ⊎ Stops (machine_of old) (machine_of new))

-- recovery finds the pages of entries that a stop may leave; it finds nothing only if the store was
-- opened and nothing was kept
abbrev pub FindsLeft : Kept → List Holding → Type 0
FindsLeft s held =
    MatchResult (recovery held)
    (λ f. (left : List Entry) × MayLeave (machine_of s) left × (f.leaves ≡ pages s.filed.m s.start (records left)))
    (λ e. (e ≡ Empty) × (s.before ≡ 0) × (s.durable ≡ 0))

-- what is found, were the store stopped now: if no call appends, or in the middle of the append
-- that failed
abbrev pub MayBeStopped : Kept → Type 0
MayBeStopped s = FindsLeft s (boxes s.log)

-- what is found, were the store stopped while boxes that it gave up still have what they had: any
-- number of the first of them are empty again, and the others stand before those of the store
abbrev pub MayBeStoppedBefore : List Holding → Kept → Type 0
MayBeStoppedBefore given s = (k : ℕ) → FindsLeft s (drop k given ++ boxes s.log)

-- a call that writes pages again, as the machine: each cut stands after it, and what a stop leaves
-- is found
pub record RunsAs {A : Type 0} (old : Kept) (result : Result A StoreFault) (new : Kept) : Type 0 where
  pub each_cut : EachCutStands new
  pub steps : KeepsAs result old new
  pub may_leave : MayBeStopped new
