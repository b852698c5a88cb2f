-- Why a record or a flush was refused.

use Rattle.std.proofs.Common.{◌≡◌, ℕ, Bool, true, false, Option, Some, None, Result, Ok, Err, length, List, inl, inr, refl, sym, ap, ◌∙◌, subst}
use Rattle.std.proofs.lemmas.Bool.{ne_eqb}
use Rattle.std.specs.Prelude.{◌==◌, ◌&&◌, nat_lt, is_none, if◌then◌else◌}
use Rattle.bw_codec.specs.Grammar.{frame_bytes}
use Rattle.bw_buffer.specs.Filling.{frame_of}
use Rattle.bw_log.specs.Appends.{wants_segment, spares_wanted, is_spent, refusal, Checks}
use Rattle.bw_log.specs.declared.fault.LogFault.{LogFault}
use Rattle.bw_log.specs.declared.fault.LogFault.TheVariants as logs
use Rattle.bw_terms.specs.declared.fault.StoreFault.{StoreFault}
use Rattle.bw_terms.specs.declared.fault.StoreFault.TheVariants.{NoMemory, BadConfig, NoSegment, Device, Failed, Spent, NoPage, NothingOld}
use Rattle.bw_core.specs.Kept.{Kept}
use Rattle.bw_core.specs.Emptied.{IsUnready}
use Rattle.bw_core.specs.Faults.{FlushAnswers, FlushLeaves, IsRefused, flush_refusal, refusal_by}
use Rattle.bw_terms.specs.Told.{fault_of}
use Rattle.bw_record.specs.declared.record.Record.{Record}
use Rattle.bw_core.specs.Fitting.{Fits}
use Rattle.bw_core.specs.Taking.{MakesRoom, IsWanting, IsSpentFor, IsStopped, IsUnplanned, Refuses, Works}

-- a flush that answers Ok was not of a failed store
none_failed : (s : Kept) (o : Option ℕ) (failed : Bool) (rest : Option StoreFault) → FlushAnswers (if failed then Some Failed else rest) (Ok o) → failed ≡ false
none_failed s o true rest a = absurd cc
none_failed s o false rest a = refl

pub went : (takes_last : Bool) (old : Kept) (o : Option ℕ) → FlushAnswers (refusal_by takes_last old) (Ok o) → Works old
went takes_last old o a = none_failed old o old.log.is_failed _ a

pub worked : (takes_last : Bool) (old new : Kept) (o : Option ℕ) → FlushAnswers (refusal_by takes_last old) (Ok o) → FlushLeaves old (Ok o) new
    → new.log.is_failed ≡ false
worked takes_last old new None a left = ap (λ (s : Kept). s.log.is_failed) left.0 ∙ none_failed old None old.log.is_failed _ a
worked takes_last old new (Some n) a left = ap (λ (s : Kept). s.log.is_failed) left.is ∙ left.added.works

-- ---- causes

-- if a flush answered Ok, want of memory or of a page is said of the store before it
pub entered_not : (away : ℕ → Bool) (group : List Record) (old middle new : Kept) (cause : StoreFault) → Works old → MakesRoom group old middle
    → new ≡ middle → IsWanting middle group cause → Refuses away group old cause new
entered_not away group old middle new NoMemory works may same w = (works, subst (MakesRoom group old) (sym same) may)
entered_not away group old middle new BadConfig works may same w = absurd w
entered_not away group old middle new NoSegment works may same w = absurd w
entered_not away group old middle new (Device lease) works may same w = absurd w
entered_not away group old middle new Failed works may same w = absurd w
entered_not away group old middle new Spent works may same w =
    (works, inl (subst (λ (s : Kept). MakesRoom group old s × IsSpentFor group s) (sym same) (may, inl (inr w))))
entered_not away group old middle new NoPage works may same w = absurd w
entered_not away group old middle new NothingOld works may same w = absurd w

pub stopped_unplanned : (group : List Record) (s : Kept) (cause : StoreFault) → IsStopped s cause → IsUnplanned s group cause
stopped_unplanned group s NoMemory w = absurd w
stopped_unplanned group s BadConfig w = absurd w
stopped_unplanned group s NoSegment w = absurd w
stopped_unplanned group s (Device lease) w = absurd w
stopped_unplanned group s Failed w = w
stopped_unplanned group s Spent w = (w.0, inl w.1)
stopped_unplanned group s NoPage w = absurd w
stopped_unplanned group s NothingOld w = absurd w

-- nothing was appended, and nothing could be planned
pub unplanned_now : (away : ℕ → Bool) (group : List Record) (s : Kept) (cause : StoreFault) → IsUnplanned s group cause → Refuses away group s cause s
unplanned_now away group s NoMemory w = (w, inl refl)
unplanned_now away group s BadConfig w = absurd w
unplanned_now away group s NoSegment w = absurd w
unplanned_now away group s (Device lease) w = absurd w
unplanned_now away group s Failed w = (refl, w)
unplanned_now away group s Spent w = (w.0, inl (inl refl, inl w.1))
unplanned_now away group s NoPage w = absurd w
unplanned_now away group s NothingOld w = absurd w

pub unplanned_after : (away : ℕ → Bool) (group : List Record) (old new : Kept) (cause : StoreFault) → Works old → MakesRoom group old new → Works new
    → IsUnplanned new group cause → Refuses away group old cause new
unplanned_after away group old new NoMemory was may works w = (was, may)
unplanned_after away group old new BadConfig was may works w = absurd w
unplanned_after away group old new NoSegment was may works w = absurd w
unplanned_after away group old new (Device lease) was may works w = absurd w
unplanned_after away group old new Failed was may works w = absurd cc
unplanned_after away group old new Spent was may works w = (was, inl (may, inl w.1))
unplanned_after away group old new NoPage was may works w = absurd w
unplanned_after away group old new NothingOld was may works w = absurd w

-- ---- a refusal of a flush is that of the record, or of the call, that asked for it

same_answer : (o : Option StoreFault) (fault : StoreFault) → (FlushAnswers None (Err fault) → ⊥) → FlushAnswers o (Err fault) → o ≡ Some fault
same_answer None fault never a = absurd (never a)
same_answer (Some cause) fault never a = cc

-- a flush is refused for one of three reasons, `Failed` where an append failed before
abbrev IsFlushCause : Bool → Option StoreFault → Type 0
IsFlushCause failed None = Unit {0}
IsFlushCause failed (Some NoMemory) = ⊥
IsFlushCause failed (Some BadConfig) = ⊥
IsFlushCause failed (Some NoSegment) = Unit {0}
IsFlushCause failed (Some (Device lease)) = ⊥
IsFlushCause failed (Some Failed) = failed ≡ true
IsFlushCause failed (Some Spent) = Unit {0}
IsFlushCause failed (Some NoPage) = ⊥
IsFlushCause failed (Some NothingOld) = ⊥

abbrev cause_of : (failed none empty wants spent : Bool) → Option StoreFault
cause_of failed none empty wants spent =
    if failed then Some Failed else if none then Some Spent else if empty then None
    else (elim (if failed then Some logs.Failed else if wants then Some logs.NoSegment else if spent then Some logs.Spent else None) as (λ _. Option StoreFault)
    [ None ↦ None | Some fault ↦ Some (fault_of fault) ])

cause_is : (failed none empty wants spent : Bool) → IsFlushCause failed (cause_of failed none empty wants spent)
cause_is true none empty wants spent = refl
cause_is false true empty wants spent = tt
cause_is false false true wants spent = tt
cause_is false false false true spent = tt
cause_is false false false false true = tt
cause_is false false false false false = tt

flush_cause : (takes_last : Bool) (s : Kept) → IsFlushCause s.log.is_failed (refusal_by takes_last s)
flush_cause takes_last s = cause_is s.log.is_failed (is_none s.log.next) (length s.making.blocks == 0)
    (wants_segment s.log (length (frame_bytes (frame_of s.making))) && nat_lt (length s.log.spares) (spares_wanted takes_last))
    (is_spent s.log (length (frame_bytes (frame_of s.making))))

is_cause : (takes_last : Bool) (s : Kept) (fault : StoreFault) → (FlushAnswers None (Err fault) → ⊥) → FlushAnswers (refusal_by takes_last s) (Err fault)
    → IsFlushCause s.log.is_failed (Some fault)
is_cause takes_last s fault never a =
    subst (IsFlushCause s.log.is_failed) (same_answer (refusal_by takes_last s) fault never a) (flush_cause takes_last s)

-- ---- what the log refused before the append

pub checked : (r : Option LogFault) (fault : LogFault) → Checks r (Err fault) → IsRefused r (fault_of fault)
checked (Some cause) fault a = cc
checked None fault (inl e) = absurd cc
checked None fault (inr e) = cc

abbrev log_cause : (failed wants spent : Bool) → Option LogFault
log_cause failed wants spent = if failed then Some logs.Failed else if wants then Some logs.NoSegment else if spent then Some logs.Spent else None

cause_answers : (failed none empty wants spent : Bool) (cause : StoreFault) → failed ≡ false → none ≡ false → empty ≡ false
    → IsRefused (log_cause failed wants spent) cause → FlushAnswers (cause_of failed none empty wants spent) (Err cause)
cause_answers true none empty wants spent cause f n e r = absurd cc
cause_answers false true empty wants spent cause f n e r = absurd cc
cause_answers false false true wants spent cause f n e r = absurd cc
cause_answers false false false true spent cause f n e r = cc
cause_answers false false false false true cause f n e r = cc
cause_answers false false false false false cause f n e r = subst (λ (x : StoreFault). FlushAnswers None (Err x)) (sym r) tt

cause_leaves : (failed wants spent : Bool) (old new : Kept) (cause : StoreFault) → IsRefused (log_cause failed wants spent) cause → new ≡ old
    → FlushLeaves old (Err cause) new
cause_leaves true wants spent old new cause r same = subst (λ (x : StoreFault). FlushLeaves old (Err x) new) (sym r) same
cause_leaves false true spent old new cause r same = subst (λ (x : StoreFault). FlushLeaves old (Err x) new) (sym r) same
cause_leaves false false true old new cause r same = subst (λ (x : StoreFault). FlushLeaves old (Err x) new) (sym r) same
cause_leaves false false false old new cause r same = subst (λ (x : StoreFault). FlushLeaves old (Err x) new) (sym r) same

pub prepared_answers : (takes_last : Bool) (s : Kept) (cause : StoreFault) → s.log.is_failed ≡ false → is_none s.log.next ≡ false
    → (length s.making.blocks ≡ 0 → ⊥) → IsRefused (refusal s.log (length (frame_bytes (frame_of s.making))) takes_last) cause
    → FlushAnswers (refusal_by takes_last s) (Err cause)
prepared_answers takes_last s cause f n some r =
    cause_answers s.log.is_failed (is_none s.log.next) (length s.making.blocks == 0)
    (wants_segment s.log (length (frame_bytes (frame_of s.making))) && nat_lt (length s.log.spares) (spares_wanted takes_last))
    (is_spent s.log (length (frame_bytes (frame_of s.making)))) cause f n (ne_eqb (length s.making.blocks) 0 some) r

pub prepared_leaves : (takes_last : Bool) (old new : Kept) (cause : StoreFault)
    → IsRefused (refusal old.log (length (frame_bytes (frame_of old.making))) takes_last) cause → new ≡ old → FlushLeaves old (Err cause) new
prepared_leaves takes_last old new cause r same =
    cause_leaves old.log.is_failed
    (wants_segment old.log (length (frame_bytes (frame_of old.making))) && nat_lt (length old.log.spares) (spares_wanted takes_last))
    (is_spent old.log (length (frame_bytes (frame_of old.making)))) old new cause r same

-- no flush says that too few segments are live
pub never_nothing : (takes_last : Bool) (s : Kept) → FlushAnswers (refusal_by takes_last s) (Err NothingOld) → ⊥
never_nothing takes_last s a = is_cause takes_last s NothingOld (λ x. x) a

-- nor that there is no such page
pub never_page : (takes_last : Bool) (s : Kept) → FlushAnswers (refusal_by takes_last s) (Err NoPage) → ⊥
never_page takes_last s a = is_cause takes_last s NoPage (λ x. x) a

-- nor does what goes before a step
pub never_unready : (old new : Kept) (fault : StoreFault) → IsUnready old fault new → fault ≡ NothingOld → ⊥
never_unready old new fault (inl flush) is =
    never_nothing true old (subst (λ (x : StoreFault). FlushAnswers (refusal_by true old) (Err x)) is flush.0)
never_unready old new fault (inr memory) is = (let wanting = memory.2 in cc)

-- a flush that was refused for another cause than Failed was not of a failed store
other_cause : (failed : Bool) (rest : Option StoreFault) (fault : StoreFault) → (fault ≡ Failed → ⊥)
    → FlushAnswers (if failed then Some Failed else rest) (Err fault) → failed ≡ false
other_cause true rest fault other a = absurd (other cc)
other_cause false rest fault other a = refl

-- a flush that the device failed had no other cause
none_at : (s : Kept) (lease : ℕ) → FlushAnswers (flush_refusal s) (Err (Device lease)) → flush_refusal s ≡ None
none_at s lease a = by (flush_refusal s) (flush_cause false s) a
  where
    by : (o : Option StoreFault) → IsFlushCause s.log.is_failed o → FlushAnswers o (Err (Device lease)) → o ≡ None
    by None is told = refl
    by (Some cause) is told = absurd (subst (λ (o : Option StoreFault). IsFlushCause s.log.is_failed o) (same cause told) is)
      where
        same : (cause : StoreFault) → FlushAnswers (Some cause) (Err (Device lease)) → Some cause ≡ Some (Device lease)
        same cause told = cc

-- nor had one that answered Ok
pub none_of : (o : Option StoreFault) (x : Option ℕ) → FlushAnswers o (Ok x) → o ≡ None
none_of None x a = refl
none_of (Some cause) x a = absurd cc

-- a flush for a group that does not fit
pub flush_refuses : (away : ℕ → Bool) (group : List Record) (old new : Kept) (cause : StoreFault) → (Fits old group → ⊥)
    → FlushAnswers (flush_refusal old) (Err cause) → FlushLeaves old (Err cause) new → Refuses away group old cause new
flush_refuses away group old new NoMemory full a left = (other_cause old.log.is_failed _ NoMemory (λ e. cc) a, inl left)
flush_refuses away group old new BadConfig full a left = absurd (is_cause false old BadConfig (λ x. x) a)
flush_refuses away group old new NoSegment full a left = (left, full, same_answer (flush_refusal old) NoSegment (λ x. x) a)
flush_refuses away group old new (Device lease) full a left =
    (other_cause old.log.is_failed _ (Device lease) (λ e. cc) a, inl (full, none_at old lease a, left))
flush_refuses away group old new Failed full a left = (left, is_cause false old Failed (λ x. x) a)
flush_refuses away group old new Spent full a left = (
  other_cause old.log.is_failed _ Spent (λ e. cc) a,
  inl (
    inl left,
    inr (subst (λ (s : Kept). (Fits s group → ⊥) × (flush_refusal s ≡ Some Spent)) (sym left)
        (full, same_answer (flush_refusal old) Spent (λ x. x) a)),
  ),
)
flush_refuses away group old new NoPage full a left = absurd (is_cause false old NoPage (λ x. x) a)
flush_refuses away group old new NothingOld full a left = absurd (is_cause false old NothingOld (λ x. x) a)

-- if an append failed before, a flush says it, and so does a refused group
pub failed_flush : (takes_last : Bool) (s : Kept) (r : Result (Option ℕ) StoreFault) → s.log.is_failed ≡ true → FlushAnswers (refusal_by takes_last s) r
    → r ≡ Err Failed
failed_flush takes_last s r failed answers = by s.log.is_failed _ r failed answers
  where
    by : (failed : Bool) (rest : Option StoreFault) (r : Result (Option ℕ) StoreFault) → failed ≡ true
        → FlushAnswers (if failed then Some Failed else rest) r → r ≡ Err Failed
    by true rest r is answers = answers
    by false rest r is answers = absurd cc

pub failed_record : (away : ℕ → Bool) (group : List Record) (old new : Kept) (cause : StoreFault) → old.log.is_failed ≡ true → Refuses away group old cause new
    → cause ≡ Failed
failed_record away group old new NoMemory failed r = (let works = r.0 in absurd cc)
failed_record away group old new BadConfig failed r = absurd r
failed_record away group old new NoSegment failed r = absurd (failed_wants old failed r.2)
  where
    failed_wants : (s : Kept) → s.log.is_failed ≡ true → flush_refusal s ≡ Some NoSegment → ⊥
    failed_wants s failed told = by s.log.is_failed _ failed told
      where
        by : (failed : Bool) (rest : Option StoreFault) → failed ≡ true → (if failed then Some Failed else rest) ≡ Some NoSegment → ⊥
        by true rest is told = cc
        by false rest is told = cc
failed_record away group old new (Device lease) failed r = (let works = r.0 in absurd cc)
failed_record away group old new Failed failed r = refl
failed_record away group old new Spent failed r = (let works = r.0 in absurd cc)
failed_record away group old new NoPage failed r = absurd r
failed_record away group old new NothingOld failed r = absurd r
