-- The frame in the making may follow the counted ones.

use Rattle.std.proofs.Common.{◌≡◌, ℕ, ◌+◌, ◌≤◌, ◌⊎◌, inl, inr, Bool, true, false, Some, None, Err, List}
use Rattle.std.proofs.Common.{[], ◌∷◌, ◌++◌, length, refl, sym, ap, ◌∙◌, subst, arith}
use Rattle.std.specs.List.{AllByRecursion as All}
use Rattle.std.proofs.lemmas.Grind.{fold-append}
use Rattle.bw_codec.specs.Grammar.{frame_bytes, IsBlock, IsFrame}
use Rattle.bw_buffer.specs.Filling.{Filling, frame_of}
use Rattle.bw_buffer.proofs.Framing.{lawful_frame}
use Rattle.bw_buffer.proofs.Holding.{length_of_frame}
use Rattle.bw_log.specs.declared.fault.LogFault.{LogFault}
use Rattle.bw_log.specs.declared.fault.LogFault.TheVariants as log
use Rattle.bw_log.specs.Contents as logs
use Rattle.bw_log.specs.Segments.{following, next_of}
use Rattle.bw_log.specs.Appends.{refusal, MayFollow, Appended, Stopped, IsSameLog, Rose, IsOkOrDevice, OnDevice}
use Rattle.bw_log.proofs.Adding.{following_is}
use Rattle.bw_log.proofs.Whole.{granted}
use Rattle.bw_making.specs.Begun.{IsNext}
use Rattle.bw_core.specs.Faults.{Flushed, AppendedNow}
use Rattle.bw_core.specs.Kept.{Kept, IsSound, with_frame}
use Rattle.bw_core.proofs.FrameMore.{flushed_sound, stopped_sound}
use Rattle.bw_core.proofs.FramesBehind.{following_fits}

pub some_blocks : {A : Type 0} (xs : List A) → (xs ≡ [] → ⊥) → 1 ≤ length xs
some_blocks [] h = absurd (h refl)
some_blocks (x ∷ xs) h = omega arith

-- what stands between calls, where something is to be appended
pub record Goes (s : Kept) : Type 0 where
  pub sound : IsSound s
  pub next : s.log.next ≡ Some s.making.frame
  pub some : 1 ≤ length s.making.blocks
  pub fits : length (frame_bytes (frame_of s.making)) ≤ s.making.limit

pub numbered : (s : Kept) → Goes s → s.making.frame ≡ s.before + s.durable + 1
numbered s g = following_is (s.before + s.durable) s.making.frame (sym g.sound.next ∙ g.next)

pub may_follow : (s : Kept) → Goes s → MayFollow s.log (frame_of s.making)
may_follow s g =
    let h = g.sound in
    let bound = following_fits (s.before + s.durable) s.making.frame (sym h.next ∙ g.next) in
    let number = numbered s g in
    let size = length_of_frame s.making in
    let limit = h.limit in
    let fits = g.fits in
    let some = g.some in
    let top = h.log.holds.limits.3 in
    let blocks : All (IsBlock s.log.m) s.making.blocks = subst (λ (m : ℕ). All (IsBlock m) s.making.blocks) h.pairs h.grown.lawful in
    record {
      number = g.next;
      lawful = subst (λ (f : ℕ). IsFrame s.log.m f (frame_of s.making)) limit
          (lawful_frame s.making (omega arith) bound (omega arith) (omega arith) s.log.m some blocks);
      links = h.grown.linked;
      leaves = s.filed.leaves;
      stands = subst (λ (m : ℕ). Rattle.bw_page.specs.Standing.Stand m (logs.counted s.log ++ frame_of s.making ∷ []) s.filed.leaves) h.pairs h.grown.stands;
    }

sealed_frame : (s : Kept) (b : Filling) → b ≡ record s.making { is_sealed = true } → frame_of b ≡ frame_of s.making
sealed_frame s b e = ap frame_of e

pub may_follow_at : {s : Kept} → IsSound s → s.log.next ≡ Some s.making.frame → 1 ≤ length s.making.blocks
    → length (frame_bytes (frame_of s.making)) ≤ s.making.limit
    → (b : Filling) → b ≡ record s.making { is_sealed = true } → MayFollow s.log (frame_of b)
may_follow_at {s} sound next some fits b is =
    let g : Goes s = record { sound = sound; next = next; some = some; fits = fits } in
    subst (λ (f : Rattle.bw_record.specs.declared.block.Frame.Frame). MayFollow s.log f) (sym (sealed_frame s b is)) (may_follow s g)

-- the log's next number after a frame
next_after : (old : logs.Contents) (f : Rattle.bw_record.specs.declared.block.Frame.Frame) (new : logs.Contents) → logs.IsSound new → Appended old f new
    → new.next ≡ following f.number
next_after old f new sound added = sound.holds.follows ∙ ap next_of added.frames
    ∙ fold-append (λ was g. following g.number) (Some 1) (logs.counted old) (f ∷ [])

-- the store after the append
pub appended_is : (s : Kept) (fresh : Filling) (new : logs.Contents) (cuts : List ℕ) (end : ℕ) → cuts ≡ s.cuts ++ end ∷ [] → end ≡ length s.entries
    → record s { cuts = cuts; durable = s.durable + 1; making = fresh; log = new } ≡ with_frame s fresh new
appended_is s fresh new cuts end more at =
    ap (λ (cs : List ℕ). record s { cuts = cs; durable = s.durable + 1; making = fresh; log = new }) (more ∙ ap (λ (n : ℕ). s.cuts ++ n ∷ []) at)

-- the buffer after a sealed one is the next of the frame in the making
next_of_sealed : (s : Kept) (b fresh : Filling) → b ≡ record s.making { is_sealed = true } → IsNext b fresh → IsNext s.making fresh
next_of_sealed s b fresh is next =
    let n = subst (λ (x : Filling). IsNext x fresh) is next in record { limit = n.limit; empty = n.empty; unsealed = n.unsealed; number = n.number }

pub flushed_at : {s : Kept} → IsSound s → s.log.next ≡ Some s.making.frame → s.log.is_failed ≡ false
    → (fresh b : Filling) (new : logs.Contents) (cuts : List ℕ) (end : ℕ) → b ≡ record s.making { is_sealed = true } → IsNext b fresh
    → logs.IsSound new → Appended s.log (frame_of b) new → IsSameLog s.log new
    → cuts ≡ s.cuts ++ end ∷ [] → end ≡ length s.entries
    → IsSound (record s { cuts = cuts; durable = s.durable + 1; making = fresh; log = new })
flushed_at {s} sound next works fresh b new cuts end is begun whole added same more at =
    let added_as = subst (λ (f : Rattle.bw_record.specs.declared.block.Frame.Frame). Appended s.log f new) (sealed_frame s b is) added in
    let n = next_of_sealed s b fresh is begun in
    let number = following_is (s.before + s.durable) s.making.frame (sym sound.next ∙ next) in
    let later = next_after s.log (frame_of s.making) new whole added_as in
    let found_next : (new.next ≡ Some fresh.frame) ⊎ (new.next ≡ None) = elim (n.number) [ inl e ↦ inl (later ∙ e) | inr e ↦ inr (later ∙ e) ] in
    subst IsSound (sym (appended_is s fresh new cuts end more at))
    (flushed_sound s sound works fresh new next number whole added_as same n.limit n.empty n.unsealed found_next)

pub appended_now : {s : Kept} (fresh b : Filling) (new : logs.Contents) (cuts : List ℕ) (end : ℕ) → b ≡ record s.making { is_sealed = true } → IsNext b fresh
    → Appended s.log (frame_of b) new → IsSameLog s.log new → cuts ≡ s.cuts ++ end ∷ [] → end ≡ length s.entries
    → AppendedNow s (record s { cuts = cuts; durable = s.durable + 1; making = fresh; log = new })
appended_now {s} fresh b new cuts end is begun added same more at = record {
  fresh = fresh;
  log = new;
  is = appended_is s fresh new cuts end more at;
  empty = begun.empty;
  added = subst (λ (f : Rattle.bw_record.specs.declared.block.Frame.Frame). Appended s.log f new) (sealed_frame s b is) added;
  same = same;
}

-- what a flush leaves, by what its append leaves
pub flushed_by : {old middle new : Kept} (number : ℕ) → middle ≡ old → number ≡ old.making.frame → AppendedNow middle new → Flushed old number new
flushed_by {old} {middle} {new} number same named now =
    let a = subst (λ (s : Kept). AppendedNow s new) same now in
    record { fresh = a.fresh; log = a.log; named = named; is = a.is; empty = a.empty; added = a.added; same = a.same }

pub stopped_at : {s : Kept} → IsSound s → s.log.next ≡ Some s.making.frame → s.log.is_failed ≡ false
    → (b : Filling) (new : logs.Contents) (cuts : List ℕ) (end : ℕ) (fault : LogFault) (Q : Type 0) → b ≡ record s.making { is_sealed = true }
    → logs.IsSound new → IsSameLog s.log new
    → IsOkOrDevice {A = Unit {0}} (Err fault)
    → OnDevice {A = Unit {0}} (Err fault) (λ lease. Rose lease (logs.boxes s.log) (logs.boxes new) × Stopped s.log (frame_of b) new) Q
    → cuts ≡ s.cuts ++ end ∷ [] → end ≡ length s.entries
    → IsSound (record s { cuts = cuts; making = b; log = new })
stopped_at {s} sound next works b new cuts end (log.Device lease) Q is whole same only on more at =
    let number = following_is (s.before + s.durable) s.making.frame (sym sound.next ∙ next) in
    subst (λ (x : Filling). IsSound (record s { cuts = cuts; making = x; log = new })) (sym is)
    (subst (λ (cs : List ℕ). IsSound (record s { cuts = cs; making = record s.making { is_sealed = true }; log = new }))
    (sym (more ∙ ap (λ (n : ℕ). s.cuts ++ n ∷ []) at))
    (stopped_sound s sound works new next number whole
    (subst (λ (f : Rattle.bw_record.specs.declared.block.Frame.Frame). Stopped s.log f new) (sealed_frame s b is) on.1) same))
stopped_at sound next works b new cuts end log.NoMemory Q is whole same only on more at = absurd only
stopped_at sound next works b new cuts end log.BadConfig Q is whole same only on more at = absurd only
stopped_at sound next works b new cuts end log.NoSegment Q is whole same only on more at = absurd only
stopped_at sound next works b new cuts end log.Failed Q is whole same only on more at = absurd only
stopped_at sound next works b new cuts end log.Spent Q is whole same only on more at = absurd only
stopped_at sound next works b new cuts end log.NoPage Q is whole same only on more at = absurd only

pub granted_works : (c : logs.Contents) (len : ℕ) (care : Bool) → refusal c len care ≡ None → c.is_failed ≡ false
granted_works c len care e = (granted c len care e).works

-- the frame in the making is the next one, if there is one
pub making_is : {s : Kept} {k : ℕ} → IsSound s → s.log.next ≡ Some k → s.log.next ≡ Some s.making.frame
making_is {s} {k} h e =
    let is = following_is (s.before + s.durable) k (sym h.next ∙ e) in
    elim (h.number) [
      | inl number ↦ e ∙ ap (λ (n : ℕ). Some n) (omega arith)
      | inr none ↦ absurd (let x = none.0 in cc)
    ]
