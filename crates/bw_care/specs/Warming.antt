-- Pages that recovery left in the log, read one by one, or brought into memory.

use Rattle.std.specs.Prelude.{ℕ, ◌≡◌, true, List, [], Result, Ok, Err}
use Rattle.std.specs.declared.dyn_box.DynBox.{DynBox}
use Rattle.std.specs.declared.alloc.Global.{Global}
use Rattle.bw_device.specs.Holding.{Holding}
use Rattle.bw_page.specs.Shown.{Shown, is_evicted_page}
use Rattle.bw_log.specs.Contents.{Contents}
use Rattle.bw_log.specs.Reads.{FailedRead, HoldsPage, IsWornOut}
use Rattle.bw_log.specs.Views.{seen_by}
use Rattle.bw_log.specs.declared.fault.LogFault.{LogFault}
use Rattle.bw_log.specs.declared.fault.LogFault.TheVariants as log
use Rattle.bw_lines.specs.declared.cause.RecoverCause.{RecoverCause}
use Rattle.bw_lines.specs.declared.cause.RecoverCause.TheVariants.{NoMemory, BadConfig, Device, Spent, Empty, BadBytes, Gap, Mixed, BadLink, Unlawful}
use Rattle.bw_care.specs.Found.{IsRecovered}
use Rattle.bw_care.specs.declared.recovered.Recovered.{Recovered}

-- why a page that is there was not read
abbrev pub IsReadFault : LogFault → Type 0
IsReadFault log.NoMemory = Unit {0}
IsReadFault (log.Device lease) = Unit {0}
IsReadFault log.Spent = Unit {0}
IsReadFault log.BadConfig = ⊥
IsReadFault log.NoSegment = ⊥
IsReadFault log.Failed = ⊥
IsReadFault log.NoPage = ⊥

abbrev pub unread_of : LogFault → RecoverCause
unread_of log.NoMemory = NoMemory
unread_of (log.Device lease) = Device lease
unread_of log.Spent = Spent
unread_of log.BadConfig = NoMemory
unread_of log.NoSegment = NoMemory
unread_of log.Failed = NoMemory
unread_of log.NoPage = NoMemory

-- what a refused read leaves, if it may have had to read the live segments of these indices
abbrev pub Unread : (ℕ → Type 0) → Contents → RecoverCause → Contents → Type 0
Unread reads old NoMemory new = new ≡ old
Unread reads old (Device lease) new = FailedRead reads lease old new
Unread reads old Spent new = (new ≡ old) × IsWornOut reads old.live
Unread reads old BadConfig new = ⊥
Unread reads old Empty new = ⊥
Unread reads old (BadBytes segment at) new = ⊥
Unread reads old Gap new = ⊥
Unread reads old Mixed new = ⊥
Unread reads old (BadLink page) new = ⊥
Unread reads old (Unlawful page) new = ⊥

-- what a call that only reads leaves
abbrev pub ReadEnds : {A : Type 0} → (ℕ → Type 0) → Contents → Result A RecoverCause → Contents → Type 0
ReadEnds reads old (Ok x) new = new ≡ old
ReadEnds reads old (Err cause) new = Unread reads old cause new

-- a segment that holds blocks of a page that is not in memory
pub record IsAway (c : Contents) (leaves : Shown) (at : ℕ) : Type 0 where
  pub page : ℕ
  pub away : is_evicted_page page leaves ≡ true
  pub holds : HoldsPage c page at

module _ {I : Type 0} {H : I → Type 0} where
  -- the same was found, whichever pages are in memory
  pub record AreSame (old new : Recovered I H) : Type 0 where
    pub m : new.leaves.m ≡ old.leaves.m
    pub leaves : new.leaves.leaves ≡ old.leaves.leaves
    pub first : new.first ≡ old.first
    pub last : new.last ≡ old.last
    pub tail : new.tail ≡ old.tail
    pub dropped : new.dropped ≡ old.dropped

  -- a question changes nothing but a count of failures
  pub record IsAsked (v : DynBox I Global H → Holding) (old new : Recovered I H) : Type 0 where
    pub recovered : IsRecovered v new
    pub same : AreSame old new
    pub evicted : new.leaves.evicted ≡ old.leaves.evicted

  -- each page is in memory, and nothing else has changed
  pub record IsWarm (v : DynBox I Global H → Holding) (old new : Recovered I H) : Type 0 where
    pub same : AreSame old new
    pub log : seen_by v new.log ≡ seen_by v old.log
    pub here : new.leaves.evicted ≡ []

  -- a read was refused: some pages may be in memory that were not
  pub record RefusesWarm (v : DynBox I Global H → Holding) (cause : RecoverCause) (old new : Recovered I H) : Type 0 where
    pub same : AreSame old new
    pub stops : Unread (IsAway (seen_by v old.log) old.leaves) (seen_by v old.log) cause (seen_by v new.log)
