-- What comes back of an opening that was refused.

use Rattle.std.specs.Prelude.{ℕ, ◌≡◌, List}
use Rattle.std.specs.declared.dyn_box.DynBox.{DynBox}
use Rattle.std.specs.declared.alloc.Global.{Global}
use Rattle.bw_device.specs.Holding.{Holding}
use Rattle.bw_page.specs.Shown.{Shown}
use Rattle.bw_log.specs.Contents.{Contents}
use Rattle.bw_log.specs.Reads.{FailedRead, IsWornOut}
use Rattle.bw_log.specs.Views.{seen_by}
use Rattle.bw_care.specs.Warming.{AreSame, IsAway}
use Rattle.bw_care.specs.declared.recovered.Recovered.{Recovered}
use Rattle.bw_lines.specs.declared.cause.RecoverCause.{RecoverCause}
use Rattle.bw_lines.specs.declared.cause.RecoverCause.TheVariants as cause
use Rattle.bw_terms.specs.declared.fault.StoreFault.{StoreFault}
use Rattle.bw_terms.specs.declared.fault.StoreFault.TheVariants.{NoMemory, BadConfig, NoSegment, Device, Failed, Spent, NoPage, NothingOld}

-- why a page that is there was not read
abbrev pub IsReadCause : RecoverCause → Type 0
IsReadCause cause.NoMemory = Unit {0}
IsReadCause (cause.Device lease) = Unit {0}
IsReadCause cause.Spent = Unit {0}
IsReadCause cause.BadConfig = ⊥
IsReadCause cause.Empty = ⊥
IsReadCause (cause.BadBytes segment at) = ⊥
IsReadCause cause.Gap = ⊥
IsReadCause cause.Mixed = ⊥
IsReadCause (cause.BadLink page) = ⊥
IsReadCause (cause.Unlawful page) = ⊥

abbrev pub unread_of : RecoverCause → StoreFault
unread_of cause.NoMemory = NoMemory
unread_of (cause.Device lease) = Device lease
unread_of cause.Spent = Spent
unread_of cause.BadConfig = NoMemory
unread_of cause.Empty = NoMemory
unread_of (cause.BadBytes segment at) = NoMemory
unread_of cause.Gap = NoMemory
unread_of cause.Mixed = NoMemory
unread_of (cause.BadLink page) = NoMemory
unread_of (cause.Unlawful page) = NoMemory

-- the log as it was, but for a segment that had to be read, failed and counts it
abbrev pub Unread : StoreFault → Shown → Contents → Contents → Type 0
Unread NoMemory leaves old new = new ≡ old
Unread BadConfig leaves old new = new ≡ old
Unread (Device lease) leaves old new = FailedRead (IsAway old leaves) lease old new
Unread Spent leaves old new = (new ≡ old) × IsWornOut (IsAway old leaves) old.live
Unread NoSegment leaves old new = ⊥
Unread Failed leaves old new = ⊥
Unread NoPage leaves old new = ⊥
Unread NothingOld leaves old new = ⊥

module _ {I : Type 0} {H : I → Type 0} where
  -- what was recovered comes back: some pages may be in memory that were not, but not if a number was out of its range
  pub record IsHandedBack (v : DynBox I Global H → Holding) (cause : StoreFault) (old new : Recovered I H) : Type 0 where
    pub same : AreSame old new
    pub log : Unread cause old.leaves (seen_by v old.log) (seen_by v new.log)
    pub asked : cause ≡ BadConfig → new ≡ old
