-- What an upgrade gives up, and what stops it.

use Rattle.std.specs.Prelude.{ℕ, ◌+◌, ◌≤◌, ◌≡◌, true, false, max, List, [], length, map, take, drop}
use Rattle.std.specs.List.{fold}
use Rattle.bw_codec.specs.Reading.{version_in}
use Rattle.bw_device.specs.Holding.{Holding}
use Rattle.bw_log.specs.Adopting.{old_in}
use Rattle.bw_log.specs.Contents.{Contents, KeepsLeaves, counted, roster, IsSound}
use Rattle.bw_log.specs.Oldest.{last_number}
use Rattle.bw_log.specs.Segments.{frames_of}
use Rattle.bw_log.specs.declared.fault.LogFault.{LogFault}
use Rattle.bw_log.specs.declared.fault.LogFault.TheVariants.{NoMemory, BadConfig, NoSegment, Device, Failed, Spent, NoPage}
use Rattle.bw_care.specs.Cleaning.{pages_upto}
use Rattle.bw_care.specs.Moving.{MovedBehind, StoppedBehind}
use Rattle.bw_care.specs.declared.fault.CleanFault.{CleanFault}
use Rattle.bw_care.specs.declared.fault.CleanFault.TheVariants.{NothingOld, Log}
use Rattle.bw_care.specs.declared.upgrader.Upgraded.{Upgraded}

-- how many of the live segments have version 1: they come first
abbrev pub old_segments : Contents → ℕ
old_segments c = old_in (map (λ h. version_in h.bytes) c.live)

-- the greatest number of a counted frame in these segments, or 0
abbrev pub last_among : Contents → List Holding → ℕ
last_among c hs = fold (λ last h. max last (last_number c h)) 0 hs

-- in those of version 1
abbrev pub last_of_old : Contents → ℕ
last_of_old c = last_among c (take (old_segments c) c.live)

-- the pages whose last setting block stands there, from page 1 on
abbrev pub pages_of_old : Contents → List ℕ
pages_of_old c = pages_upto (last_of_old c) c

-- so many frames stand in the first so many of these segments
abbrev pub count_in : ℕ → List Holding → ℕ
count_in k live = length (frames_of (map (λ h. h.bytes) (take k live)))

-- the first so many segments were given up
pub record GivenUp (k : ℕ) (old new : Contents) : Type 0 where
  pub given_up : new ≡ record old { live = drop k old.live; number = old.number + k; frames = new.frames }
  pub counts : counted new ≡ drop (count_in k old.live) (counted old)

-- one after the other: once any number of them is gone, the log is sound, and its counted frames
-- stand for the leaves for which they stood
abbrev pub GivenInTurn : ℕ → Contents → Type 0
GivenInTurn k old = (j : ℕ) → j ≤ k → (new : Contents) × GivenUp j old new × IsSound new × KeepsLeaves old new

-- all of those pages were written again, and the segments of version 1 were given up
pub record IsUpgraded (old : Contents) (upgraded : Upgraded) (new : Contents) : Type 0 where
  pub some : 1 ≤ old_segments old
  pub worked : old.is_failed ≡ false
  pub then_log : Contents
  pub moved : MovedBehind (last_of_old old) old then_log (pages_of_old old) [] upgraded.frames
  pub sound : IsSound then_log
  pub given_up : GivenUp (old_segments old) then_log new
  pub in_turn : GivenInTurn (old_segments old) then_log
  pub kept : take (old_segments old) then_log.live ≡ take (old_segments old) old.live
  pub segments : upgraded.segments ≡ old_segments old
  pub pages : upgraded.pages ≡ length (pages_of_old old)
  pub leases : roster new ≡ drop (old_segments old) (roster old)

-- some of those pages were written again, then a step was refused
pub record IsHalted (old : Contents) (fault : LogFault) (new : Contents) : Type 0 where
  pub some : 1 ≤ old_segments old
  pub worked : old.is_failed ≡ false
  pub stopped : StoppedBehind (last_of_old old) old (pages_of_old old) fault new

-- what a refused upgrade leaves
abbrev pub RefusesUpgrade : CleanFault → Contents → Contents → Type 0
RefusesUpgrade NothingOld old new = (new ≡ old) × (old_segments old ≡ 0)
RefusesUpgrade (Log NoMemory) old new = IsHalted old NoMemory new
RefusesUpgrade (Log BadConfig) old new = ⊥
RefusesUpgrade (Log NoSegment) old new = IsHalted old NoSegment new
RefusesUpgrade (Log (Device lease)) old new = IsHalted old (Device lease) new
RefusesUpgrade (Log Failed) old new = (new ≡ old) × (1 ≤ old_segments old) × (old.is_failed ≡ true)
RefusesUpgrade (Log Spent) old new = IsHalted old Spent new
RefusesUpgrade (Log NoPage) old new = ⊥
