-- What the answer of an upgrade says of the store.

use Rattle.std.proofs.Common.{◌≡◌, ℕ, ◌≤◌, Option, Some, None, Result, Ok, Err, ◌++◌}
use Rattle.std.proofs.Common.{length, drop, ap, ◌∙◌, arith}
use Rattle.std.specs.Prelude.{IfOk, IfErr}
use Rattle.bw_log.specs.Contents as logs
use Rattle.bw_log.specs.declared.fault.LogFault.{LogFault}
use Rattle.bw_log.specs.declared.fault.LogFault.TheVariants as log
use Rattle.bw_care.specs.Moving as care
use Rattle.bw_care.specs.Upgrading.{old_segments, last_of_old, pages_of_old, count_in}
use Rattle.bw_care.specs.Upgrading as upgrades
use Rattle.bw_care.proofs.UpgradeMoved.{more_left, old_are}
use Rattle.bw_care.specs.declared.upgrader.Upgraded.{Upgraded}
use Rattle.bw_care.specs.declared.fault.CleanFault.{CleanFault}
use Rattle.bw_care.specs.declared.fault.CleanFault.TheVariants.{NothingOld, Log}
use Rattle.bw_terms.specs.declared.fault.StoreFault.{StoreFault}
use Rattle.bw_core.specs.Cleaning.{HasBoxesBut}
use Rattle.bw_core.specs.Faults.{FlushLeaves}
use Rattle.bw_core.specs.Kept.{Kept}
use Rattle.bw_core.specs.Upgrading.{UpgradeMoves}
use Rattle.bw_core.proofs.CleanedMore.{Begins, Cleans, GaveUp, StandsOn, Wrote, few_upto, given_wrote, refused_wrote, stopped_roster}

-- ---- the log after it

gave_up_old : (s : Kept) (upgraded : Upgraded) (new : logs.Contents) → Begins s → (x : upgrades.IsUpgraded s.log upgraded new)
    → GaveUp (old_segments s.log) (count_in (old_segments s.log) x.then_log.live) x.then_log new
gave_up_old s upgraded new b x = record {
  sound = x.sound;
  less = more_left s.log x.then_log upgraded.frames b.sound.log b.works b.done.stands.some x.moved;
  is = x.given_up.given_up;
  counts = x.given_up.counts;
}

pub upgraded_wrote : (s : Kept) (upgraded : Upgraded) (new : logs.Contents) → Begins s → logs.IsSound new → upgrades.IsUpgraded s.log upgraded new
    → StandsOn s new → Wrote s (length s.log.pages) new (λ fs. length fs ≡ upgraded.frames)
upgraded_wrote s upgraded new b sound x stands =
    given_wrote s (last_of_old s.log) (pages_of_old s.log) upgraded.frames (old_segments s.log) (count_in (old_segments s.log) x.then_log.live)
    (length s.log.pages)
    x.then_log new b sound (few_upto s (last_of_old s.log)) x.moved (gave_up_old s upgraded new b x) stands

-- an upgrade that is not refused at once
abbrev Halted : Kept → LogFault → logs.Contents → Type 0
Halted s fault new = care.StoppedBehind (last_of_old s.log) s.log (pages_of_old s.log) fault new

halted_of : (s : Kept) (cause : CleanFault) (new : logs.Contents) → Begins s → 1 ≤ old_segments s.log → upgrades.RefusesUpgrade cause s.log new
    → (fault : LogFault) × Halted s fault new
halted_of s NothingOld new b some r = (let none = r.1 in absurd (omega arith))
halted_of s (Log log.NoMemory) new b some r = (log.NoMemory, r.stopped)
halted_of s (Log log.BadConfig) new b some r = absurd r
halted_of s (Log log.NoSegment) new b some r = (log.NoSegment, r.stopped)
halted_of s (Log (log.Device lease)) new b some r = (log.Device lease, r.stopped)
halted_of s (Log log.Failed) new b some r = (let works = b.works in let failed = r.2 in absurd cc)
halted_of s (Log log.Spent) new b some r = (log.Spent, r.stopped)
halted_of s (Log log.NoPage) new b some r = absurd r

pub halted_wrote : (s : Kept) (cause : CleanFault) (new : logs.Contents) → Begins s → 1 ≤ old_segments s.log → logs.IsSound new
    → upgrades.RefusesUpgrade cause s.log new → StandsOn s new → Wrote s (length s.log.pages) new (λ fs. logs.counted new ≡ logs.counted s.log ++ fs)
halted_wrote s cause new b some sound r stands =
    (let halt = halted_of s cause new b some r in
    refused_wrote s (last_of_old s.log) (pages_of_old s.log) halt.0 (length s.log.pages) new b sound (few_upto s (last_of_old s.log)) halt.1 stands)

pub upgrades_of : (s : Kept) (new : logs.Contents) (r : Result Upgraded CleanFault) → Begins s → 1 ≤ old_segments s.log → logs.IsSound new
    → IfOk r (λ upgraded. upgrades.IsUpgraded s.log upgraded new) → IfErr r (λ cause. upgrades.RefusesUpgrade cause s.log new)
    → StandsOn s new → Cleans s (length s.log.pages) new
upgrades_of s new (Ok upgraded) b some sound ok err stands = (upgraded_wrote s upgraded new b sound ok stands).0
upgrades_of s new (Err cause) b some sound ok err stands = (halted_wrote s cause new b some sound err stands).0

-- ---- what no upgrade takes back

cause_roster : (old new : logs.Contents) (cause : CleanFault) → upgrades.RefusesUpgrade cause old new → logs.roster new ≡ logs.roster old
cause_roster old new NothingOld r = ap logs.roster r.0
cause_roster old new (Log log.NoMemory) r = stopped_roster (last_of_old old) (pages_of_old old) old new log.NoMemory r.stopped
cause_roster old new (Log log.BadConfig) r = absurd r
cause_roster old new (Log log.NoSegment) r = stopped_roster (last_of_old old) (pages_of_old old) old new log.NoSegment r.stopped
cause_roster old new (Log (log.Device lease)) r = stopped_roster (last_of_old old) (pages_of_old old) old new (log.Device lease) r.stopped
cause_roster old new (Log log.Failed) r = ap logs.roster r.0
cause_roster old new (Log log.Spent) r = stopped_roster (last_of_old old) (pages_of_old old) old new log.Spent r.stopped
cause_roster old new (Log log.NoPage) r = absurd r

-- the leases of those given up come first in the row
pub upgrade_boxes : (k : ℕ) (old s new : Kept) (r : Result Upgraded StoreFault) → old_segments s.log ≡ k → logs.roster s.log ≡ logs.roster old.log
    → UpgradeMoves s r new → HasBoxesBut k old r new
upgrade_boxes k old s new (Ok upgraded) as_many same left =
    left.log.leases ∙ ap (λ (n : ℕ). drop n (logs.roster s.log)) as_many ∙ ap (drop k) same
upgrade_boxes k old s new (Err fault) as_many same left = cause_roster s.log new.log left.0 left.2.log ∙ same

-- ---- a flush before it leaves the segments of version 1

pub old_stay : (old new : Kept) (o : Option ℕ) → logs.IsSound old.log → logs.IsSound new.log → FlushLeaves old (Ok o) new
    → old_segments new.log ≡ old_segments old.log
old_stay old new None a b left = ap (λ (s : Kept). old_segments s.log) left.0
old_stay old new (Some n) a b left =
    let is = ap (λ (s : Kept). s.log) left.is in
    let number = ap (λ (c : logs.Contents). c.number) is ∙ left.same.number in
    let to = ap (λ (c : logs.Contents). c.old_to) is ∙ left.same.old_to in
    let one = old_are old.log a in
    let two = old_are new.log b in
    omega arith
