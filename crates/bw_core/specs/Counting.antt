-- What a store counts beside what it keeps.

use Rattle.std.specs.Prelude.{ℕ, ◌-◌, ◌≡◌, ◌⊎◌, Bool, true, false, if◌then◌else◌, take, Result, Ok, Err, length}
use Rattle.bw_care.specs.Tallies.{up, bytes_of, counted_from, counted_out, counted_by}
use Rattle.bw_care.specs.Upgrading.{old_segments}
use Rattle.bw_care.specs.declared.cleaner.Cleaned.{Cleaned}
use Rattle.bw_care.specs.declared.upgrader.Upgraded.{Upgraded}
use Rattle.bw_care.specs.declared.tally.Counters.{Counters}
use Rattle.bw_care.specs.declared.tally.Looks.{Looks}
use Rattle.bw_care.specs.declared.tally.Tally.{Tally}
use Rattle.bw_terms.specs.declared.fault.StoreFault.{StoreFault}
use Rattle.bw_core.specs.Cleaning.{MoveLeaves}
use Rattle.bw_core.specs.Emptied.{Emptied, IsUnready}
use Rattle.bw_core.specs.Kept.{Kept}
use Rattle.bw_core.specs.Noted.{Noted}
use Rattle.bw_core.specs.Upgrading.{UpgradeMoves}

-- a store that begins: nothing is forgotten
abbrev pub noted_from : ℕ → ℕ → Noted
noted_from pages bytes = record { gone = 0; tally = counted_from pages bytes }

-- an eviction, by whether the page left
abbrev pub noted_left : Bool → Noted → Noted
noted_left left n = if left then record n { tally = counted_out n.tally } else n

-- ---- what a cleaning counts, and an upgrade

-- the first live segments are given up, so many of them, in a store in which nothing waits
abbrev pub counted_gone : ℕ → Tally → Kept → Bool → Kept → Tally
counted_gone count t old done new =
    counted_by t done (new.durable - old.durable) (up 0 (bytes_of old.log.live)) (up 0 (bytes_of new.log.live))
    (up 0 (bytes_of (take count old.log.live))) count

-- a call that gives segments up: it counts what its step did after the flush, and nothing else
abbrev pub CountsStep : {A : Type 0} → (Kept → ℕ) → (Kept → Result A StoreFault → Kept → Type 0)
    → Kept → Tally → Result A StoreFault → Kept → Tally → Type 0
CountsStep gone leaves old t (Ok x) new u =
    (middle : Kept) × Emptied true old middle × leaves middle (Ok x) new × (u ≡ counted_gone (gone middle) t middle true new)
CountsStep gone leaves old t (Err fault) new u =
    (((new ≡ old) ⊎ IsUnready old fault new) × (u ≡ t))
    ⊎ ((middle : Kept) × Emptied true old middle × leaves middle (Err fault) new × (u ≡ counted_gone (gone middle) t middle false new))

-- a cleaning
abbrev pub CountsClean : Kept → Tally → Result Cleaned StoreFault → Kept → Tally → Type 0
CountsClean old t result new u = CountsStep (λ _. 1) MoveLeaves old t result new u

-- an upgrade
abbrev pub CountsUpgraded : Kept → Tally → Result Upgraded StoreFault → Kept → Tally → Type 0
CountsUpgraded old t result new u = CountsStep (λ s. old_segments s.log) UpgradeMoves old t result new u

-- ---- what is said

abbrev pub counters_of : Kept → Tally → Looks → Counters
counters_of s t looks = record {
  records = length s.entries;
  frames = s.durable;
  bytes = up t.given_up (bytes_of s.log.live) - t.bytes;
  cleaner_frames = t.cleaner_frames;
  cleaner_bytes = t.cleaner_bytes;
  splits = length s.filed.leaves - length s.start;
  evictions = up t.evictions looks.left;
  reads = looks.reads;
  cleanings = t.cleanings;
}
