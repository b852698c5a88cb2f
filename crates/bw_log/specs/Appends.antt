-- What an append does, and when it is refused.

use Rattle.std.specs.Prelude.{ℕ, ◌+◌, ◌-◌, ◌^◌, ◌≡◌, ◌⊎◌, ◌&&◌, ◌||◌, not, nat_lt, nat_le, Bool, true, false, if◌then◌else◌, IsTrue, OnOk, is_none, Option}
use Rattle.std.specs.Prelude.{Some}
use Rattle.std.specs.Prelude.{None, Result, Ok, Err, List, [], ◌∷◌, ◌++◌, length, slice_get}
use Rattle.bw_codec.specs.Grammar.{frame_bytes, header_bytes, IsFrame}
use Rattle.bw_record.specs.declared.leaf.Leaf.{Leaf}
use Rattle.bw_record.specs.declared.block.Frame.{Frame}
use Rattle.bw_codec.specs.declared.head.Header.{Header}
use Rattle.bw_page.specs.Standing.{Stand}
use Rattle.bw_device.specs.Holding.{Holding, appended, torn_at}
use Rattle.bw_log.specs.Places.{AreLinked}
use Rattle.bw_log.specs.Segments.{header_with, following, frames_of}
use Rattle.bw_log.specs.Contents.{Contents, image, boxes, roster, rooms_of, counted, IsSound}
use Rattle.bw_log.specs.declared.fault.LogFault.{LogFault}
use Rattle.bw_log.specs.declared.fault.LogFault.TheVariants.{NoMemory, BadConfig, NoSegment, Device, Failed, Spent, NoPage}

-- ---- a new current segment

abbrev pub header_of : Contents → Header
header_of c = header_with (c.number + length c.live) c.m c.f

-- the first spare has its header, and is the newest segment
abbrev pub begun_with : Contents → List Holding → Contents
begun_with c [] = c
begun_with c (s ∷ ss) =
    record c { live = c.live ++ appended s (header_bytes (header_of c)) ∷ []; spares = ss; is_open = true }

abbrev pub begun : Contents → Contents
begun c = begun_with c c.spares

-- ---- the current segment

abbrev pub last_of : List Holding → Option Holding
last_of [] = None
last_of (h ∷ []) = Some h
last_of (h ∷ k ∷ hs) = last_of (k ∷ hs)

abbrev pub with_last : (Holding → Holding) → List Holding → List Holding
with_last change [] = []
with_last change (h ∷ []) = change h ∷ []
with_last change (h ∷ k ∷ hs) = h ∷ with_last change (k ∷ hs)

abbrev pub has_room : ℕ → Option Holding → Bool
has_room len None = false
has_room len (Some h) = nat_le (length h.bytes + len) h.room

-- whether a frame of this length wants a new segment
abbrev pub wants_segment : Contents → ℕ → Bool
wants_segment c len = not (c.is_open && has_room len (last_of c.live))

-- the log with a current segment that has room for the frame
abbrev pub roomy : Contents → ℕ → Contents
roomy c len = if wants_segment c len then begun c else c

-- ---- refusals, in their order

-- how many spares have to stand if a segment is begun, by whether the last one may be taken
abbrev pub spares_wanted : Bool → ℕ
spares_wanted false = 2
spares_wanted true = 1

-- one more failure of this segment could not be counted
abbrev pub is_worn : Option Holding → Bool
is_worn None = false
is_worn (Some h) = nat_le (2 ^ 64 - 1) h.failed

-- a needed number does not exist
abbrev pub is_spent : Contents → ℕ → Bool
is_spent c len =
    is_none c.next
    || (if wants_segment c len then nat_le (2 ^ 64) (c.number + length c.live) || is_worn (slice_get c.spares 0)
    else is_worn (last_of c.live))

abbrev pub refusal : Contents → ℕ → Bool → Option LogFault
refusal c len takes_last =
    if c.is_failed then Some Failed
    else if wants_segment c len && nat_lt (length c.spares) (spares_wanted takes_last) then Some NoSegment
    else if is_spent c len then Some Spent
    else None

-- the answer is that refusal; if there is none, no other than want of memory or a failure of the
-- device
abbrev pub Answers : Option LogFault → Result (Unit {0}) LogFault → Type 0
Answers (Some fault) result = result ≡ Err fault
Answers None (Ok x) = Unit {0}
Answers None (Err NoMemory) = Unit {0}
Answers None (Err (Device lease)) = Unit {0}
Answers None (Err BadConfig) = ⊥
Answers None (Err NoSegment) = ⊥
Answers None (Err Failed) = ⊥
Answers None (Err Spent) = ⊥
Answers None (Err NoPage) = ⊥

-- the answer of a call that asks no device: that refusal; if there is none, Ok or want of memory
abbrev pub Checks : Option LogFault → Result (Unit {0}) LogFault → Type 0
Checks (Some fault) result = result ≡ Err fault
Checks None result = (result ≡ Ok tt) ⊎ (result ≡ Err NoMemory)

-- Ok, or a failure of the device
abbrev pub IsOkOrDevice : {A : Type 0} → Result A LogFault → Type 0
IsOkOrDevice (Ok x) = Unit {0}
IsOkOrDevice (Err NoMemory) = ⊥
IsOkOrDevice (Err (Device lease)) = Unit {0}
IsOkOrDevice (Err BadConfig) = ⊥
IsOkOrDevice (Err NoSegment) = ⊥
IsOkOrDevice (Err Failed) = ⊥
IsOkOrDevice (Err Spent) = ⊥
IsOkOrDevice (Err NoPage) = ⊥

-- a fact for a failure of the device, and one for each other fault
abbrev pub OnDevice : {A : Type 0} → Result A LogFault → (ℕ → Type 0) → Type 0 → Type 0
OnDevice (Ok x) P Q = Unit {0}
OnDevice (Err NoMemory) P Q = Q
OnDevice (Err (Device lease)) P Q = P lease
OnDevice (Err BadConfig) P Q = Q
OnDevice (Err NoSegment) P Q = Q
OnDevice (Err Failed) P Q = Q
OnDevice (Err Spent) P Q = Q
OnDevice (Err NoPage) P Q = Q

-- ---- an append

-- a frame that may follow the counted ones
pub record MayFollow (c : Contents) (frame : Frame) : Type 0 where
  pub number : c.next ≡ Some frame.number
  pub lawful : IsFrame c.m c.f frame
  pub links : AreLinked (counted c ++ frame ∷ [])
  pub leaves : List Leaf
  pub stands : Stand c.m (counted c ++ frame ∷ []) leaves

-- the frame's bytes stand at the end of the current segment, which takes further ones
pub record Appended (old : Contents) (frame : Frame) (new : Contents) : Type 0 where
  pub takes : new.is_open ≡ true
  pub works : new.is_failed ≡ false
  pub next : new.next ≡ following frame.number
  pub live : new.live ≡ with_last (λ h. appended h (frame_bytes frame)) (roomy old (length (frame_bytes frame))).live
  pub spares : new.spares ≡ (roomy old (length (frame_bytes frame))).spares
  pub frames : counted new ≡ counted old ++ frame ∷ []

-- a failed append left the first n bytes of its piece
abbrev pub torn : ℕ → List ℕ → Holding → Holding
torn n piece h = torn_at n h piece

abbrev pub with_first : (Holding → Holding) → List Holding → List Holding
with_first change [] = []
with_first change (h ∷ hs) = change h ∷ hs

-- the whole frames of the live segments are the counted ones, or these and the one that was appended
abbrev pub LeftBehind : Contents → Frame → Contents → Type 0
LeftBehind old frame new =
    (frames_of (image new).bytes ≡ counted old) ⊎ (frames_of (image new).bytes ≡ counted old ++ frame ∷ [])

-- a segment was to be begun, and a beginning of its header stands in the first spare
abbrev pub HasHeaderPart : ℕ → Contents → Frame → Contents → Type 0
HasHeaderPart kept old frame new =
    IsTrue (wants_segment old (length (frame_bytes frame)))
    × (new.live ≡ old.live)
    × (new.spares ≡ with_first (torn kept (header_bytes (header_of old))) old.spares)

-- a beginning of the frame, maybe all of it, stands in the current segment
abbrev pub HasFramePart : ℕ → Contents → Frame → Contents → Type 0
HasFramePart kept old frame new =
    (new.live ≡ with_last (torn kept (frame_bytes frame)) (roomy old (length (frame_bytes frame))).live)
    × (new.spares ≡ (roomy old (length (frame_bytes frame))).spares)

-- after a failed append: which of the two appends failed, and that nothing more counts
pub record Stopped (old : Contents) (frame : Frame) (new : Contents) : Type 0 where
  pub kept : ℕ
  pub where_it_stands : HasHeaderPart kept old frame new ⊎ HasFramePart kept old frame new
  pub frames : counted new ≡ counted old
  pub left : LeftBehind old frame new
  pub failed : new.is_failed ≡ true

-- the failure count of that lease's segment rose by one
pub record Rose (lease : ℕ) (old new : List Holding) : Type 0 where
  pub at : ℕ
  pub before : Holding
  pub after : Holding
  pub was : slice_get old at ≡ Some before
  pub is : slice_get new at ≡ Some after
  pub named : before.lease ≡ lease
  pub counts : after.failed ≡ before.failed + 1

-- what no append changes
pub record IsSameLog (old new : Contents) : Type 0 where
  pub m : new.m ≡ old.m
  pub f : new.f ≡ old.f
  pub number : new.number ≡ old.number
  pub old_to : new.old_to ≡ old.old_to
  pub leases : roster new ≡ roster old
  pub rooms : rooms_of new ≡ rooms_of old

-- what an append of a frame leaves, by its answer and by whether it may take the last spare
pub record AfterAppend (old : Contents) (frame : Frame) (takes_last : Bool) (result : Result (Unit {0}) LogFault) (new : Contents) : Type 0 where
  pub sound : IsSound new
  -- after Ok
  pub added : OnOk result (Appended old frame new)
  pub log : IsSameLog old new
  -- what can be said without the device comes first, in the order of `refusal`
  pub answers : Answers (refusal old (length (frame_bytes frame)) takes_last) result
  -- after any other refusal the log is what it was
  pub device : OnDevice result (λ lease. Rose lease (boxes old) (boxes new) × Stopped old frame new) (new ≡ old)
