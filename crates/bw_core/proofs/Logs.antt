-- A store whose log changed, but not in what it counts.

use Rattle.std.proofs.Common.{false, ◌≡◌, ℕ, ◌+◌, ◌<◌, inl, inr, List, [], ◌∷◌, ◌++◌, length, map, refl, sym, ap, ◌∙◌, subst, arith, append-nil}
use Rattle.std.proofs.lemmas.List.{length-map}
use Rattle.std.specs.List.{AllByRecursion as All}
use Rattle.bw_record.specs.declared.block.Frame.{Frame}
use Rattle.bw_page.specs.Standing.{Stand}
use Rattle.bw_buffer.specs.Filling.{frame_of}
use Rattle.bw_device.specs.Holding.{Holding}
use Rattle.bw_log.specs.declared.fault.LogFault.{LogFault}
use Rattle.bw_log.specs.declared.fault.LogFault.TheVariants as log
use Rattle.bw_log.specs.Contents as logs
use Rattle.bw_log.specs.Reads.{IsKept}
use Rattle.bw_log.specs.Segments.{frames_of}
use Rattle.bw_terms.specs.declared.fault.StoreFault.TheVariants.{BadConfig, NothingOld}
use Rattle.bw_terms.specs.Told.{fault_of}
use Rattle.bw_core.specs.Following.{Follows}
use Rattle.bw_core.specs.Growing.{Grown, frames_upto}
use Rattle.bw_core.specs.Kept.{Kept, leaves_at, TellsShare, IsSound}
use Rattle.bw_core.specs.Reading.{with_log}
use Rattle.bw_core.specs.declared.origin.Edge.{Edge}
use Rattle.bw_core.specs.Edges.{IsBegun}
use Rattle.bw_core.proofs.Edging.{begun_on}
use Rattle.bw_core.proofs.FollowMore.{stays_on}

-- a log that counts the same frames
pub record CountsAs (old new : logs.Contents) : Type 0 where
  pub sound : logs.IsSound new
  pub m : new.m ≡ old.m
  pub f : new.f ≡ old.f
  pub next : new.next ≡ old.next
  pub failed : new.is_failed ≡ old.is_failed
  pub frames : logs.counted new ≡ logs.counted old
  pub bytes : (logs.image new).bytes ≡ (logs.image old).bytes
  pub begun : (edge : Edge) → IsBegun edge old → IsBegun edge new

-- live segments with the same rooms and numbers
pub begun_as : (edge : Edge) (old new : logs.Contents) → map (λ h. h.room) new.live ≡ map (λ h. h.room) old.live → new.number ≡ old.number → new.f ≡ old.f
    → IsBegun edge old → IsBegun edge new
begun_as edge old new same number limit was =
    let bare_old : logs.Contents = record old { spares = [] } in
    let bare_new : logs.Contents = record new { spares = [] } in
    let long = ap (λ (l : List ℕ). length l) same in
    let one = length-map old.live (λ (h : Holding). h.room) in
    let two = length-map new.live (λ (h : Holding). h.room) in
    begun_on edge bare_old bare_new tt
    (ap (map (λ (h : Holding). h.room)) (append-nil new.live) ∙ same ∙ sym (ap (map (λ (h : Holding). h.room)) (append-nil old.live)))
    number limit (omega arith) was

-- a read counts the same frames, refused or not
pub read_counts : (old new : logs.Contents) → logs.IsSound new → IsKept old new → CountsAs old new
read_counts old new sound kept = record {
  sound = sound;
  m = ap (λ (i : logs.Image). i.m) kept.same;
  f = ap (λ (i : logs.Image). i.f) kept.same;
  next = ap (λ (i : logs.Image). i.next) kept.same;
  failed = ap (λ (i : logs.Image). i.is_failed) kept.same;
  frames = kept.counts;
  bytes = ap (λ (i : logs.Image). i.bytes) kept.same;
  begun = λ edge was. begun_as edge old new kept.rooms (ap (λ (i : logs.Image). i.number) kept.same) (ap (λ (i : logs.Image). i.f) kept.same) was;
}

pub log_sound : (s : Kept) (new : logs.Contents) → IsSound s → CountsAs s.log new → IsSound (with_log s new)
log_sound s new h c = record {
  log = c.sound;
  pairs = h.pairs ∙ sym c.m;
  limit = h.limit ∙ sym c.f;
  leaves = h.leaves;
  mapped = h.mapped;
  mapped_at = h.mapped_at;
  first = h.first;
  ops = h.ops;
  writers = h.writers;
  grown = subst (λ (fs : List Frame). Grown s.filed.m fs (frame_of s.making) s.filed.leaves s.newest) (sym c.frames) h.grown;
  next = c.next ∙ h.next;
  last = h.last;
  number = elim (h.number) [ inl e ↦ inl e | inr e ↦ inr (c.next ∙ e.0, e.1) ];
  sealed = h.sealed ∙ sym c.failed;
  ordered = h.ordered;
  beyond = elim (h.beyond) [ inl e ↦ inl e | inr e ↦ inr (e.0, c.failed ∙ e.1) ];
  last_cut = λ failed. h.last_cut (sym c.failed ∙ failed);
  floor = h.floor;
  stands = λ k low high from. subst (λ (fs : List Frame). Stand s.filed.m (frames_upto (s.before + k) fs) (leaves_at s k)) (sym c.frames)
      (h.stands k low high from);
  shares = subst (λ (fs : List Frame). All (λ f. s.before < f.number → TellsShare s f) fs) (sym c.frames) h.shares;
  tells = h.tells;
  edged = h.edged;
  begun = c.begun s.edge h.begun;
  left = λ failed. (
      let same = ap frames_of (sym c.bytes) in
      elim (h.left (sym c.failed ∙ failed)) [
        | inl none ↦ inl (sym same ∙ none.0, none.1, none.2)
        | inr some ↦ elim some [
          | inl here ↦ inr (inl (subst (λ (fs : List Frame). Stand s.filed.m fs (leaves_at s s.durable)) same here))
          | inr beyond ↦ inr (inr (beyond.0, subst (λ (fs : List Frame). Stand s.filed.m fs (leaves_at s (s.durable + 1))) same beyond.1))
        ]
      ]);
}

pub log_follows : (s : Kept) (new : logs.Contents) → Follows s (with_log s new)
log_follows s new = stays_on s new

-- a log that differs from such a one in nothing
counts_via : (old then_log new : logs.Contents) → logs.IsSound new → new ≡ then_log → (logs.IsSound then_log → CountsAs old then_log) → CountsAs old new
counts_via old then_log new sound is counts = subst (CountsAs old) (sym is) (counts (subst logs.IsSound is sound))

-- a log whose current segment was closed
pub rolled_counts : (old new : logs.Contents) → logs.IsSound new → new ≡ record old { is_open = false } → CountsAs old new
rolled_counts old new sound is = counts_via old (record old { is_open = false }) new sound is
    (λ x. record { sound = x; m = refl; f = refl; next = refl; failed = refl; frames = refl; bytes = refl; begun = λ edge was. was })

-- a log with one more spare
pub added_counts : (old new : logs.Contents) (box : Holding) → logs.IsSound new → new ≡ record old { spares = old.spares ++ box ∷ [] } → CountsAs old new
added_counts old new box sound is = counts_via old (record old { spares = old.spares ++ box ∷ [] }) new sound is
    (λ x. record { sound = x; m = refl; f = refl; next = refl; failed = refl; frames = refl; bytes = refl; begun = λ edge was. was })

-- for a refusal of the log the store answers a bad box if the log does, and only then; and never
-- that nothing is old
told_by_log : (fault : LogFault) → (fault_of fault ≡ BadConfig → fault ≡ log.BadConfig) × (NothingOld ≡ fault_of fault → ⊥)
told_by_log log.NoMemory = (λ e. cc, λ e. cc)
told_by_log log.BadConfig = (λ e. refl, λ e. cc)
told_by_log log.NoSegment = (λ e. cc, λ e. cc)
told_by_log (log.Device lease) = (λ e. cc, λ e. cc)
told_by_log log.Failed = (λ e. cc, λ e. cc)
told_by_log log.Spent = (λ e. cc, λ e. cc)
told_by_log log.NoPage = (λ e. cc, λ e. cc)

pub only_bad : (fault : LogFault) → fault_of fault ≡ BadConfig → fault ≡ log.BadConfig
only_bad fault = (told_by_log fault).0

pub log_never : (fault : LogFault) → NothingOld ≡ fault_of fault → ⊥
log_never fault = (told_by_log fault).1
