-- Why a put was refused, or a call on the map.

use Rattle.std.specs.Prelude.{◌≡◌, ℕ, Bool, List, MatchOption, length, map}
use Rattle.bw_ring.specs.Ends.{accepted}
use Rattle.bw_ring.specs.declared.feed.Feed.{Feed}
use Rattle.bw_ring.specs.declared.lane.Lane.{Lane}
use Rattle.bw_terms.specs.declared.fault.StoreFault.{StoreFault}
use Rattle.bw_history.specs.History.{streams}
use Rattle.bw_history.specs.Machine.{TakesMany}
use Rattle.bw_core.specs.Following.{Follows, RefusedAt, groups_since}
use Rattle.bw_core.specs.Kept.{Kept}
use Rattle.bw_core.specs.Machine.{machine_of}
use Rattle.bw_core.specs.Settling.{SettleRefuses}
use Rattle.bw_home.specs.declared.fault.MapFault.{MapFault}
use Rattle.bw_home.specs.declared.fault.MapFault.TheVariants.{NotKept, NotPut, Waits, Writers}

-- groups that waited were taken, and then one was refused, as a turn is
abbrev pub IsWaitRefused : Kept → List Lane → (ℕ → Bool) → Kept → StoreFault → Type 0
IsWaitRefused old lanes away new cause = RefusedAt old lanes away cause new

-- groups that waited were taken, and none was refused
abbrev pub AreTaken : Kept → Kept → Type 0
AreTaken old new = TakesMany (groups_since old new) (machine_of old) (machine_of new)

-- so all that these feeds had accepted was taken, and the queue is full all the same
pub record IsStillFull (feeds : List Feed) (old new : Kept) : Type 0 where
  pub taken : AreTaken old new
  pub all : streams 0 (length feeds) new.entries ≡ map accepted feeds

-- a change was put, and then it, or one that waited before it, was refused, as a turn is
pub record IsTakeRefused (old : Kept) (lanes : List Lane) (away : ℕ → Bool) (new : Kept) (cause : StoreFault) : Type 0 where
  pub put : Kept
  pub follows : Follows old put
  pub refused : RefusedAt put lanes away cause new

-- why a call on the map was refused, which left these feeds
abbrev pub IsReason : MapFault → List Feed → Kept → List Lane → (ℕ → Bool) → Kept → Type 0
IsReason Writers feeds old lanes away new = Unit {0}
IsReason (NotPut cause) feeds old lanes away new = MatchOption cause (IsStillFull feeds old new) (IsWaitRefused old lanes away new)
IsReason (Waits cause) feeds old lanes away new = IsTakeRefused old lanes away new cause
IsReason (NotKept cause) feeds old lanes away new = SettleRefuses old lanes away cause new
