-- What the calls leave that only ask or read, or change only the boxes.

use Rattle.std.specs.Prelude.{ℕ, ◌≡◌, false, Result, Ok, Err, List, [], ◌∷◌, ◌++◌}
use Rattle.bw_record.specs.declared.leaf.Leaf.{Leaf}
use Rattle.bw_page.specs.Leaves.{pages}
use Rattle.bw_device.specs.Holding.{Holding}
use Rattle.bw_log.specs.Contents as logs
use Rattle.bw_log.specs.Reads.{IsKept, IsWornOut, FailedRead, HoldsPage}
use Rattle.bw_terms.specs.declared.fault.StoreFault.{StoreFault}
use Rattle.bw_terms.specs.declared.fault.StoreFault.TheVariants.{NoMemory, BadConfig, NoSegment, Device, Failed, Spent, NoPage, NothingOld}
use Rattle.bw_history.specs.Entries.{records}
use Rattle.bw_core.specs.Kept.{Kept}

-- the pages of the history
abbrev pub leaves_now : Kept → List Leaf
leaves_now s = pages s.filed.m s.start (records s.entries)

-- with another log
abbrev pub with_log : Kept → logs.Contents → Kept
with_log s log = record s { log = log }

-- a call that at most reads the boxes: cuts and all held bytes stay
pub record HasRead (old new : Kept) : Type 0 where
  pub is : new ≡ with_log old new.log
  pub kept : IsKept old.log new.log

-- one spare more, which goes last
abbrev pub with_spare : Kept → Holding → Kept
with_spare s one = with_log s (record s.log { spares = s.log.spares ++ one ∷ [] })

-- the current segment takes no more frames
abbrev pub rolled : Kept → Kept
rolled s = with_log s (record s.log { is_open = false })

-- what a call leaves that may have had to read the live segments of these indices
abbrev pub ReadLeaves : {A : Type 0} → (ℕ → Type 0) → Kept → Result A StoreFault → Kept → Type 0
ReadLeaves reads old (Ok x) new = new ≡ old
ReadLeaves reads old (Err NoMemory) new = new ≡ old
ReadLeaves reads old (Err BadConfig) new = ⊥
ReadLeaves reads old (Err NoSegment) new = ⊥
ReadLeaves reads old (Err (Device lease)) new = FailedRead reads lease old.log new.log
ReadLeaves reads old (Err Failed) new = ⊥
ReadLeaves reads old (Err Spent) new = (new ≡ old) × IsWornOut reads old.log.live
ReadLeaves reads old (Err NoPage) new = ⊥
ReadLeaves reads old (Err NothingOld) new = ⊥

-- what a read of a page leaves, which there may not be
abbrev pub PageLeaves : (ℕ → Type 0) → Kept → Result Leaf StoreFault → Kept → Type 0
PageLeaves reads old (Err NoPage) new = new ≡ old
PageLeaves reads old result new = ReadLeaves reads old result new

-- a page had to be read, and the segment of this lease failed
pub record CouldNotRead (lease : ℕ) (old new : Kept) : Type 0 where
  pub page : ℕ
  pub read : HasRead old new
  pub failed : FailedRead (HoldsPage old.log page) lease old.log new.log

-- a page has to be read, and a further failure of its segment could not be counted
pub record IsUnread (s : Kept) : Type 0 where
  pub page : ℕ
  pub worn : IsWornOut (HoldsPage s.log page) s.log.live

-- what a walk leaves, which may have had to read several pages
abbrev pub WalkLeaves : {A : Type 0} → Kept → Result A StoreFault → Kept → Type 0
WalkLeaves old (Ok x) new = new ≡ old
WalkLeaves old (Err NoMemory) new = new ≡ old
WalkLeaves old (Err BadConfig) new = ⊥
WalkLeaves old (Err NoSegment) new = ⊥
WalkLeaves old (Err (Device lease)) new = CouldNotRead lease old new
WalkLeaves old (Err Failed) new = ⊥
WalkLeaves old (Err Spent) new = (new ≡ old) × IsUnread old
WalkLeaves old (Err NoPage) new = ⊥
WalkLeaves old (Err NothingOld) new = ⊥
