-- Frames in order, as a log has them.

use Rattle.std.proofs.Common.{inl, inr, ◌≡◌, ◌⊎◌, ℕ, ◌+◌, ◌==◌, true, Option, Some, None, List, [], ◌∷◌, map, refl, sym, ap}
use Rattle.std.proofs.Common.{◌∙◌, subst}
use Rattle.std.specs.List.{fold, AllByRecursion}
use Rattle.std.proofs.lemmas.Bool.{and_parts, eqb-true}
use Rattle.bw_codec.specs.Grammar.{IsBlock, IsBlockIn, IsFrameIn}
use Rattle.bw_record.specs.declared.block.Block.{Block}
use Rattle.bw_codec.specs.declared.head.Header.{Header}
use Rattle.bw_codec.proofs.Versions.{old_may_be_written}
use Rattle.bw_record.specs.declared.block.Frame.{Frame}
use Rattle.bw_device.specs.Holding.{Holding}
use Rattle.bw_log.specs.Places.{first_number}
use Rattle.bw_log.specs.Segments.{Limits, segment_frames, frames_of, AreFrom, following, next_of}
use Rattle.bw_log.specs.Adopting.{next_in}
use Rattle.bw_log.specs.declared.places.FrameAt.{FrameAt}
use Rattle.bw_care.specs.Behind.{frames_behind}
use Rattle.bw_lines.specs.Lawful.{HasLawful}
use Rattle.bw_care.specs.Scanned.{IsScan}
use Rattle.bw_care.specs.Ordering.{follow_from, AreFound, lines_found}
use Rattle.bw_care.specs.declared.scan.Scan.TheVariants.{Live}
use Rattle.bw_care.proofs.NumberOrder.{frames_here, all_numbers}
use Rattle.bw_care.specs.declared.order.Found.{Found}
use Rattle.bw_care.proofs.LiveRow.{IsLike}
use Rattle.bw_log.proofs.Entries.{all_append, all_mapped}

abbrev number : Frame → ℕ
number f = f.number

from_some : (k : ℕ) (fs : List Frame) → follow_from (Some k) (map number fs) ≡ true → AreFrom (k + 1) fs
from_some k [] e = tt
from_some k (f ∷ fs) e =
    let two = and_parts (k + 1 == f.number) (follow_from (Some f.number) (map number fs)) e in
    let same : k + 1 ≡ f.number = eqb-true (k + 1) f.number two.0 in
    (sym same, subst (λ (n : ℕ). AreFrom (n + 1) fs) (sym same) (from_some f.number fs two.1))

-- frames without a gap
pub frames_from : (fs : List Frame) → follow_from None (map (λ f. f.number) fs) ≡ true → AreFrom (first_number fs) fs
frames_from [] e = tt
frames_from (f ∷ fs) e = (refl, from_some f.number fs e)

-- ---- the next number

abbrev next_number : Option ℕ → List ℕ → Option ℕ
next_number was ns = fold (λ o n. following n) was ns

lines_next : (was : Option ℕ) (es : List FrameAt) → fold (λ o e. following e.number) was es ≡ next_number was (map (λ e. e.number) es)
lines_next was [] = refl
lines_next was (e ∷ es) = lines_next (following e.number) es

frames_next : (was : Option ℕ) (fs : List Frame) → fold (λ o f. following f.number) was fs ≡ next_number was (map number fs)
frames_next was [] = refl
frames_next was (f ∷ fs) = frames_next (following f.number) fs

pub next_same : (k : ℕ) (boxes hs : List Holding) (rs : List Found) → AreFound boxes hs rs
    → next_in (lines_found k rs) ≡ next_of (frames_of (map (λ h. h.bytes) hs))
next_same k boxes hs rs all = lines_next (Some 1) (lines_found k rs) ∙ ap (next_number (Some 1)) (all_numbers k boxes hs rs all)
    ∙ sym (frames_next (Some 1) (frames_of (map (λ h. h.bytes) hs)))

-- ---- lawful

-- a block that is lawful in a format may be written
block_lawful : (v m : ℕ) (b : Block) → (v ≡ 1) ⊎ (v ≡ 2) → IsBlockIn v m b → IsBlock m b
block_lawful v m b (inl old) law = old_may_be_written m b (subst (λ (k : ℕ). IsBlockIn k m b) old law)
block_lawful v m b (inr new) law = subst (λ (k : ℕ). IsBlockIn k m b) new law

pub frame_lawful : (v m f : ℕ) (x : Frame) → (v ≡ 1) ⊎ (v ≡ 2) → IsFrameIn v m f x → HasLawful m x
frame_lawful v m f x version law = (
  law.head.numbered.0,
  law.head.some.0,
  all_mapped (IsBlockIn v m) (IsBlock m) x.blocks
      (λ b one. block_lawful v m b version one) law.blocks,
)

here_lawful : (l : Limits) (h : Holding) (r : Found) → IsLike l r → IsScan h.bytes (Live r.header r.behind)
    → AllByRecursion (HasLawful l.m) (segment_frames h.bytes)
here_lawful l h r like is =
    let k = r.header in
    subst (AllByRecursion (HasLawful l.m)) (sym (frames_here h r is))
    (subst (λ (m : ℕ). AllByRecursion (HasLawful m) (frames_behind k h.bytes)) (ap (λ (x : Header). x.m) like)
    (all_mapped (IsFrameIn k.version k.m k.f) (HasLawful k.m) (frames_behind k h.bytes)
    (λ x one. frame_lawful k.version k.m k.f x is.3.0.version one) is.2.laws))

pub all_lawful : (l : Limits) (boxes hs : List Holding) (rs : List Found) → AreFound boxes hs rs → AllByRecursion (IsLike l) rs
    → AllByRecursion (HasLawful l.m) (frames_of (map (λ h. h.bytes) hs))
all_lawful l boxes [] [] all like = tt
all_lawful l boxes [] (r ∷ rs) all like = absurd all
all_lawful l boxes (h ∷ hs) [] all like = absurd all
all_lawful l boxes (h ∷ hs) (r ∷ rs) all like =
    all_append (HasLawful l.m) (segment_frames h.bytes) (frames_of (map (λ x. x.bytes) hs)) (here_lawful l h r like.0 all.0)
    (all_lawful l boxes hs rs all.1 like.1)
