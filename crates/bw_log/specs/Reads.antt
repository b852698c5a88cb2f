-- What a read answers, and what a refused one leaves.

use Rattle.std.specs.Prelude.{ℕ, ◌+◌, ◌-◌, ◌^◌, ◌≤◌, ◌≡◌, nat_le, if◌then◌else◌, Option, Some, None, Result, Ok, Err, List, length}
use Rattle.std.specs.Prelude.{map, slice_get, slice_set, true}
use Rattle.std.specs.List.{list_any}
use Rattle.bw_record.specs.declared.block.Frame.{Frame}
use Rattle.bw_record.specs.Touch.{touches}
use Rattle.bw_device.specs.Holding.{Holding, failed_once}
use Rattle.bw_log.specs.Contents.{Contents, image, roster, counted}
use Rattle.bw_log.specs.Walking.{StandsAt}
use Rattle.bw_log.specs.declared.places.FrameAt.{FrameAt}
use Rattle.bw_log.specs.declared.fault.LogFault.{LogFault}
use Rattle.bw_log.specs.declared.fault.LogFault.TheVariants.{NoMemory, BadConfig, NoSegment, Device, Failed, Spent, NoPage}

abbrev pub IsPage : Contents → ℕ → Type 0
IsPage c page = (1 ≤ page) × (page ≤ length c.pages)

-- the live segment of a number
abbrev pub segment_at : Contents → ℕ → Option Holding
segment_at c segment = if nat_le c.number segment then slice_get c.live (segment - c.number) else None

-- the failure count of a live segment that has to be read is at its greatest value
pub record IsWornOut (reads : ℕ → Type 0) (live : List Holding) : Type 0 where
  pub at : ℕ
  pub read : reads at
  pub segment : Holding
  pub is : slice_get live at ≡ Some segment
  pub greatest : 2 ^ 64 - 1 ≤ segment.failed

-- after a failed read: the segment of that lease, which had to be read, counts one failure more
pub record FailedRead (reads : ℕ → Type 0) (lease : ℕ) (old new : Contents) : Type 0 where
  pub at : ℕ
  pub read : reads at
  pub segment : Holding
  pub was : slice_get old.live at ≡ Some segment
  pub named : segment.lease ≡ lease
  pub is : new ≡ record old { live = slice_set old.live at (failed_once segment) }

-- what no read changes
pub record IsKept (old new : Contents) : Type 0 where
  pub same : image new ≡ image old
  pub counts : counted new ≡ counted old
  pub spares : new.spares ≡ old.spares
  pub leases : roster new ≡ roster old
  pub rooms : map (λ h. h.room) new.live ≡ map (λ h. h.room) old.live

-- what a refused read leaves, if it may have had to read the live segments of these indices
abbrev pub StopsAt : (ℕ → Type 0) → Contents → LogFault → Contents → Type 0
StopsAt reads old NoMemory new = new ≡ old
StopsAt reads old (Device lease) new = FailedRead reads lease old new
StopsAt reads old BadConfig new = ⊥
StopsAt reads old NoSegment new = ⊥
StopsAt reads old Failed new = ⊥
StopsAt reads old Spent new = (new ≡ old) × IsWornOut reads old.live
StopsAt reads old NoPage new = new ≡ old

-- what a call that only reads leaves
abbrev pub ReadStops : {A : Type 0} → (ℕ → Type 0) → Contents → Result A LogFault → Contents → Type 0
ReadStops reads old (Ok x) new = new ≡ old
ReadStops reads old (Err fault) new = StopsAt reads old fault new

-- the segment of this number
abbrev pub IsNumbered : Contents → ℕ → ℕ → Type 0
IsNumbered c segment at = segment ≡ c.number + at

-- the segment in which the counted frame of this index stands
pub record IsLineIn (c : Contents) (index at : ℕ) : Type 0 where
  pub line : FrameAt
  pub told : slice_get c.frames index ≡ Some line
  pub inside : IsNumbered c line.segment at

-- a segment in which a counted frame stands that touches the page
pub record HoldsPage (c : Contents) (page at : ℕ) : Type 0 where
  pub index : ℕ
  pub frame : Frame
  pub stands : StandsAt (counted c) index frame
  pub touched : list_any (touches page) frame.blocks ≡ true
  pub inside : IsLineIn c index at
