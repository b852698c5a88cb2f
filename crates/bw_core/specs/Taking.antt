-- What a take of one lane leaves.

use Rattle.std.specs.Prelude.{ℕ, ◌≡◌, Bool, false, ◌⊎◌, ◌≤◌, ◌<◌, ◌-◌, ◌^◌, true, Option, None, Some, Result, Ok, Err, List, length, take, slice_get}
use Rattle.bw_record.specs.declared.record.Record.{Record}
use Rattle.bw_page.specs.Leaves.{directed_at, pages, result_of, HasPage}
use Rattle.bw_log.specs.Reads.{FailedRead, HoldsPage, IsWornOut}
use Rattle.bw_terms.specs.declared.fault.StoreFault.{StoreFault}
use Rattle.bw_terms.specs.declared.fault.StoreFault.TheVariants.{NoMemory, BadConfig, NoSegment, Device, Failed, Spent, NoPage, NothingOld}
use Rattle.bw_making.specs.declared.plan.Plan.{Plan}
use Rattle.bw_ring.specs.declared.lane.Lane.{Lane}
use Rattle.bw_ring.specs.Marks.{marked}
use Rattle.bw_history.specs.Lanes.{IsNext}
use Rattle.bw_making.specs.Planning.{listed}
use Rattle.bw_making.specs.Adding.{blocks_for}
use Rattle.bw_core.specs.Kept.{Kept}
use Rattle.bw_core.specs.Taken.{taken_all}
use Rattle.bw_core.specs.Fitting.{Fits, here_at}
use Rattle.bw_core.specs.Reading.{HasRead}
use Rattle.bw_core.specs.Faults.{Flushed, Broken, flush_refusal}

-- nothing was appended; or the frame in the making was, which had no room for the whole group, and which
-- a flush was allowed to append: the last spare is left to a cleaning
abbrev pub MakesRoom : List Record → Kept → Kept → Type 0
MakesRoom group old new =
    (new ≡ old) ⊎ ((Fits old group → ⊥) × (flush_refusal old ≡ None) × ((number : ℕ) × Flushed old number new))

-- one group was taken: all its records are put into the frame in the making, and a frame is
-- appended before it only if it does not fit whole
pub record Took (lane : ℕ) (old new : Kept) : Type 0 where
  pub group : List Record
  pub few : (1 ≤ length group) × (length group ≤ 4)
  pub worked : old.log.is_failed ≡ false
  pub middle : Kept
  pub flushes : MakesRoom group old middle
  pub fits : Fits middle group
  pub works : middle.log.is_failed ≡ false
  pub is : new ≡ taken_all middle lane (marked group)

-- ---- why a group was refused

-- there is no further page when the turn of one of its records comes that makes one
pub record HasAllPages (s : Kept) (group : List Record) : Type 0 where
  pub before : ℕ
  pub item : Record
  pub one : slice_get group before ≡ Some item
  pub splits : s.filed.m < length (result_of (pages s.filed.m s.filed.leaves (take before group)) item).pairs
  pub all : 2 ^ 32 - 1 ≤ length (pages s.filed.m s.filed.leaves (take before group))

-- want of memory, or no further page
abbrev pub IsWanting : Kept → List Record → StoreFault → Type 0
IsWanting s group NoMemory = Unit {0}
IsWanting s group BadConfig = ⊥
IsWanting s group NoSegment = ⊥
IsWanting s group (Device lease) = ⊥
IsWanting s group Failed = ⊥
IsWanting s group Spent = HasAllPages s group
IsWanting s group NoPage = ⊥
IsWanting s group NothingOld = ⊥

-- a counter at its greatest value: that of frames, or of the pages
abbrev pub IsSpentAt : Kept → List Record → Type 0
IsSpentAt s group = (s.log.next ≡ None) ⊎ HasAllPages s group

-- or, if the group does not fit, one that the append before it needs
abbrev pub IsSpentFor : List Record → Kept → Type 0
IsSpentFor group s = IsSpentAt s group ⊎ ((Fits s group → ⊥) × (flush_refusal s ≡ Some Spent))

-- a page that is away is one of the group's: one of its records is directed at it
pub record MustRead (away : ℕ → Bool) (s : Kept) (group : List Record) (page : ℕ) : Type 0 where
  pub is_away : away page ≡ true
  pub at : ℕ
  pub item : Record
  pub one : slice_get group at ≡ Some item
  pub its : page ≡ directed_at s.filed.leaves item

-- such a page was read, and the segment of this lease failed
pub record NotReadFor (away : ℕ → Bool) (group : List Record) (lease : ℕ) (old new : Kept) : Type 0 where
  pub page : ℕ
  pub needs : MustRead away old group page
  pub read : HasRead old new
  pub failed : FailedRead (HoldsPage old.log page) lease old.log new.log

-- such a page has to be read, and a further failure of its segment could not be counted
pub record IsWornFor (away : ℕ → Bool) (group : List Record) (s : Kept) : Type 0 where
  pub page : ℕ
  pub needs : MustRead away s group page
  pub worn : IsWornOut (HoldsPage s.log page) s.log.live

-- the pages of a group that are away are brought back, or one of them could not be read
abbrev pub FetchLeaves : (ℕ → Bool) → List Record → Kept → Result (Unit {0}) StoreFault → Kept → Type 0
FetchLeaves away group old (Ok x) new = new ≡ old
FetchLeaves away group old (Err NoMemory) new = new ≡ old
FetchLeaves away group old (Err BadConfig) new = ⊥
FetchLeaves away group old (Err NoSegment) new = ⊥
FetchLeaves away group old (Err (Device lease)) new = NotReadFor away group lease old new
FetchLeaves away group old (Err Failed) new = ⊥
FetchLeaves away group old (Err Spent) new = (new ≡ old) × IsWornFor away group old
FetchLeaves away group old (Err NoPage) new = ⊥
FetchLeaves away group old (Err NothingOld) new = ⊥

-- no append failed so far
abbrev pub Works : Kept → Type 0
Works s = s.log.is_failed ≡ false

-- there is no frame for a further group
abbrev pub IsStopped : Kept → StoreFault → Type 0
IsStopped s NoMemory = ⊥
IsStopped s BadConfig = ⊥
IsStopped s NoSegment = ⊥
IsStopped s (Device lease) = ⊥
IsStopped s Failed = s.log.is_failed ≡ true
IsStopped s Spent = Works s × (s.log.next ≡ None)
IsStopped s NoPage = ⊥
IsStopped s NothingOld = ⊥

-- why nothing could be planned: if an append failed before, for no other reason
abbrev pub IsUnplanned : Kept → List Record → StoreFault → Type 0
IsUnplanned s group NoMemory = Works s
IsUnplanned s group BadConfig = ⊥
IsUnplanned s group NoSegment = ⊥
IsUnplanned s group (Device lease) = ⊥
IsUnplanned s group Failed = s.log.is_failed ≡ true
IsUnplanned s group Spent = Works s × IsSpentAt s group
IsUnplanned s group NoPage = ⊥
IsUnplanned s group NothingOld = ⊥

-- a group was refused, and nothing of it was taken. The frame in the making was appended before it,
-- or that was refused, only if the group does not fit whole; or a page of its records is away, as
-- these are after the refusal, and could not be read. If an append failed before, the cause is
-- Failed
abbrev pub Refuses : (ℕ → Bool) → List Record → Kept → StoreFault → Kept → Type 0
Refuses away group old NoMemory new = Works old × MakesRoom group old new
Refuses away group old BadConfig new = ⊥
Refuses away group old NoSegment new =
    (new ≡ old) × (Fits old group → ⊥) × (flush_refusal old ≡ Some NoSegment)
Refuses away group old (Device lease) new =
    Works old
    × (((Fits old group → ⊥) × (flush_refusal old ≡ None) × Broken lease old new) ⊎ NotReadFor away group lease old new)
Refuses away group old Failed new = (new ≡ old) × (old.log.is_failed ≡ true)
Refuses away group old Spent new =
    Works old × ((MakesRoom group old new × IsSpentFor group new) ⊎ ((new ≡ old) × IsWornFor away group old))
Refuses away group old NoPage new = ⊥
Refuses away group old NothingOld new = ⊥

-- a take of a group that is there
abbrev pub GroupLeaves : ℕ → (ℕ → Bool) → List Record → Kept → Result (Unit {0}) StoreFault → Kept → Type 0
GroupLeaves lane away group old (Ok x) new = (t : Took lane old new) × (t.group ≡ group)
GroupLeaves lane away group old (Err fault) new = Refuses away group old fault new

-- a group was refused that its lane still gives next, whole
pub record RefusesNext (lane : ℕ) (lanes : List Lane) (away : ℕ → Bool) (old : Kept) (fault : StoreFault) (new : Kept) : Type 0 where
  pub group : List Record
  pub waits : IsNext lanes lane group
  pub refuses : Refuses away group old fault new

-- a take of the next group of a lane, which there may not be, and how many records it has; these
-- are the lanes after it, and these pages are away
abbrev pub TakeLeaves : ℕ → List Lane → (ℕ → Bool) → Kept → Result (Option ℕ) StoreFault → Kept → Type 0
TakeLeaves lane lanes away old (Ok None) new = new ≡ old
TakeLeaves lane lanes away old (Ok (Some n)) new = (t : Took lane old new) × (length t.group ≡ n)
TakeLeaves lane lanes away old (Err fault) new = RefusesNext lane lanes away old fault new

-- a take of the next group of a lane, which is known to be there; these are the lanes after it, and
-- these pages are away
abbrev pub WaitingLeaves : ℕ → List Lane → (ℕ → Bool) → Kept → Result (Unit {0}) StoreFault → Kept → Type 0
WaitingLeaves lane lanes away old (Ok x) new = Took lane old new
WaitingLeaves lane lanes away old (Err fault) new = RefusesNext lane lanes away old fault new

-- what was planned for a record
pub record IsPlan (s : Kept) (item : Record) (plan : Plan) : Type 0 where
  pub page : plan.page ≡ directed_at s.filed.leaves item
  pub back : slice_get s.newest (plan.page - 1) ≡ Some plan.back
  pub blocks : listed plan.blocks ≡ blocks_for s.filed.m s.filed.leaves plan.back (here_at s item) item
  pub room : HasPage s.filed.m s.filed.leaves item
