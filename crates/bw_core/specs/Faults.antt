-- What each answer of a flush leaves.

use Rattle.std.specs.Prelude.{ℕ, ◌≡◌, Option, Some, None, Result, Ok, Err, Bool, false, [], length, is_none, if◌then◌else◌, ◌==◌}
use Rattle.bw_codec.specs.Grammar.{frame_bytes}
use Rattle.bw_buffer.specs.Filling.{Filling, frame_of}
use Rattle.bw_log.specs.declared.fault.LogFault.{LogFault}
use Rattle.bw_log.specs.Contents as logs
use Rattle.bw_log.specs.Appends.{refusal, Appended, Stopped, IsSameLog, Rose}
use Rattle.bw_terms.specs.declared.fault.StoreFault.{StoreFault}
use Rattle.bw_terms.specs.declared.fault.StoreFault.TheVariants.{NoMemory, BadConfig, NoSegment, Device, Failed, Spent, NoPage, NothingOld}
use Rattle.bw_terms.specs.Told.{fault_of}
use Rattle.bw_core.specs.Kept.{Kept, with_frame, with_stop}

-- why a flush is refused, memory and the device aside, by whether it may take the last spare
abbrev pub refusal_by : Bool → Kept → Option StoreFault
refusal_by takes_last s =
    if s.log.is_failed then Some Failed
    else if is_none s.log.next then Some Spent
    else if length s.making.blocks == 0 then None
    else (elim (refusal s.log (length (frame_bytes (frame_of s.making))) takes_last) as (λ _. Option StoreFault)
    [ None ↦ None | Some fault ↦ Some (fault_of fault) ])

abbrev pub flush_refusal : Kept → Option StoreFault
flush_refusal s = refusal_by false s

-- the frame in the making was appended, and the next one is begun
pub record Flushed (old : Kept) (number : ℕ) (new : Kept) : Type 0 where
  pub fresh : Filling
  pub log : logs.Contents
  pub named : number ≡ old.making.frame
  pub is : new ≡ with_frame old fresh log
  pub empty : fresh.blocks ≡ []
  pub added : Appended old.log (frame_of old.making) log
  pub same : IsSameLog old.log log

-- its append failed
pub record Broken (lease : ℕ) (old new : Kept) : Type 0 where
  pub log : logs.Contents
  pub is : new ≡ with_stop old log
  pub stopped : Stopped old.log (frame_of old.making) log
  pub rose : Rose lease (logs.boxes old.log) (logs.boxes log)
  pub same : IsSameLog old.log log

-- a refusal before the device changes nothing
abbrev pub FlushLeaves : Kept → Result (Option ℕ) StoreFault → Kept → Type 0
FlushLeaves old (Ok None) new = (new ≡ old) × (old.making.blocks ≡ [])
FlushLeaves old (Ok (Some number)) new = Flushed old number new
FlushLeaves old (Err (Device lease)) new = Broken lease old new
FlushLeaves old (Err NoMemory) new = new ≡ old
FlushLeaves old (Err BadConfig) new = new ≡ old
FlushLeaves old (Err NoSegment) new = new ≡ old
FlushLeaves old (Err Failed) new = new ≡ old
FlushLeaves old (Err Spent) new = new ≡ old
FlushLeaves old (Err NoPage) new = new ≡ old
FlushLeaves old (Err NothingOld) new = new ≡ old

-- the frame in the making was appended, and the next one is begun; nothing is said of a number
pub record AppendedNow (old new : Kept) : Type 0 where
  pub fresh : Filling
  pub log : logs.Contents
  pub is : new ≡ with_frame old fresh log
  pub empty : fresh.blocks ≡ []
  pub added : Appended old.log (frame_of old.making) log
  pub same : IsSameLog old.log log

abbrev pub AppendLeaves : Kept → Result (Unit {0}) StoreFault → Kept → Type 0
AppendLeaves old (Ok x) new = AppendedNow old new
AppendLeaves old (Err (Device lease)) new = Broken lease old new
AppendLeaves old (Err NoMemory) new = ⊥
AppendLeaves old (Err BadConfig) new = ⊥
AppendLeaves old (Err NoSegment) new = ⊥
AppendLeaves old (Err Failed) new = ⊥
AppendLeaves old (Err Spent) new = ⊥
AppendLeaves old (Err NoPage) new = ⊥
AppendLeaves old (Err NothingOld) new = ⊥

-- the log's refusal, or want of memory if it has none
abbrev pub IsRefused : Option LogFault → StoreFault → Type 0
IsRefused None fault = fault ≡ NoMemory
IsRefused (Some cause) fault = fault ≡ fault_of cause

-- the answer is that refusal; if there is none, no other than want of memory or a failure of the
-- device
abbrev pub FlushAnswers : Option StoreFault → Result (Option ℕ) StoreFault → Type 0
FlushAnswers (Some fault) result = result ≡ Err fault
FlushAnswers None (Ok x) = Unit {0}
FlushAnswers None (Err NoMemory) = Unit {0}
FlushAnswers None (Err (Device lease)) = Unit {0}
FlushAnswers None (Err BadConfig) = ⊥
FlushAnswers None (Err NoSegment) = ⊥
FlushAnswers None (Err Failed) = ⊥
FlushAnswers None (Err Spent) = ⊥
FlushAnswers None (Err NoPage) = ⊥
FlushAnswers None (Err NothingOld) = ⊥
