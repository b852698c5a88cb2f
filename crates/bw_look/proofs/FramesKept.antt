-- The first frames of a segment are kept.

use Rattle.std.proofs.Common.{◌≡◌, ℕ, ◌+◌, ◌-◌, ◌≤◌, ◌<◌, Some, None, Result, Ok, Err, List, [], ◌∷◌, ◌++◌, length, drop, refl, sym, ap, subst, ◌∙◌, arith, append_assoc, length-append, length-drop}
use Rattle.std.specs.List.{flat_map, AllByRecursion}
use Rattle.std.proofs.lemmas.List.{drop-drop, append-nil}
use Rattle.std.proofs.lemmas.Grind.{flat_map-append}
use Rattle.bw_record.specs.declared.block.Frame.{Frame}
use Rattle.bw_codec.specs.declared.head.Header.{Header}
use Rattle.bw_codec.specs.declared.fault.CodecFault.{CodecFault}
use Rattle.bw_codec.specs.declared.fault.CodecFault.TheVariants.{BadBytes}
use Rattle.bw_codec.specs.declared.head.FrameRead.{FrameRead}
use Rattle.bw_codec.specs.declared.head.FrameRead.TheVariants.{Whole, Tail}
use Rattle.bw_codec.specs.Grammar.{frame_bytes_in, IsFront}
use Rattle.bw_codec.specs.Reading.{Gives}
use Rattle.bw_look.specs.Restored.{IsUpTo, Ends, end_of, IsNext, IsKeptAfter}

-- how far a walk came in a segment
pub record IsWalked (last : ℕ) (h : Header) (bytes : List ℕ) (steps at kept : ℕ) : Type 0 where
  pub frames : List Frame
  pub rest : List ℕ
  pub parts : drop 24 bytes ≡ flat_map (frame_bytes_in h.version) frames ++ rest
  pub each : AllByRecursion (IsUpTo last h) frames
  pub there : at ≡ 24 + length (flat_map (frame_bytes_in h.version) frames)
  pub is : kept ≡ end_of h frames
  pub far : steps ≤ length (flat_map (frame_bytes_in h.version) frames)

pub walk_begins : (last : ℕ) (h : Header) (bytes : List ℕ) → IsWalked last h bytes 0 24 0
walk_begins last h bytes = record { frames = []; rest = drop 24 bytes; parts = refl; each = tt; there = refl; is = refl; far = omega arith }

drop_past : (xs ys : List ℕ) → drop (length xs) (xs ++ ys) ≡ ys
drop_past [] ys = refl
drop_past (x ∷ xs) ys = drop_past xs ys

rest_is : (bytes xs ys : List ℕ) (at : ℕ) → drop 24 bytes ≡ xs ++ ys → at ≡ 24 + length xs → drop at bytes ≡ ys
rest_is bytes xs ys at parts there =
    ap (λ (k : ℕ). drop k bytes) there ∙ sym (drop-drop (length xs) 24 bytes) ∙ ap (drop (length xs)) parts ∙ drop_past xs ys

each_more : (last : ℕ) (h : Header) (frames : List Frame) (f : Frame) → AllByRecursion (IsUpTo last h) frames → IsUpTo last h f → AllByRecursion (IsUpTo last h) (frames ++ f ∷ [])
each_more last h [] f each this = (this, tt)
each_more last h (x ∷ frames) f each this = (each.0, each_more last h frames f each.1 this)

spelled_more : (h : Header) (frames : List Frame) (f : Frame) → flat_map (frame_bytes_in h.version) (frames ++ f ∷ []) ≡ flat_map (frame_bytes_in h.version) frames ++ frame_bytes_in h.version f
spelled_more h frames f = flat_map-append (frame_bytes_in h.version) frames (f ∷ []) ∙ ap (λ (l : List ℕ). flat_map (frame_bytes_in h.version) frames ++ l) (append-nil (frame_bytes_in h.version f))

end_is : (h : Header) (frames : List Frame) (f : Frame) → end_of h (frames ++ f ∷ []) ≡ 24 + length (flat_map (frame_bytes_in h.version) (frames ++ f ∷ []))
end_is h [] f = refl
end_is h (x ∷ frames) f = refl

-- ---- what stands there

pub ends_there : (last : ℕ) (h : Header) (rest : List ℕ) (read : Result FrameRead CodecFault) → ((there : FrameRead) → IsFront h.version h.m h.f rest there → Gives (λ x. x) read (Some there))
    → read ≡ Ok Tail → Ends last h rest
ends_there last h rest read only is f len begins =
    let gives : Some (Whole f len) ≡ Some Tail = subst (λ (r : Result FrameRead CodecFault). Gives (λ x. x) r (Some (Whole f len))) is (only (Whole f len) begins) in
    cc

pub ends_bad : (last : ℕ) (h : Header) (rest : List ℕ) (read : Result FrameRead CodecFault) → ((there : FrameRead) → IsFront h.version h.m h.f rest there → Gives (λ x. x) read (Some there))
    → read ≡ Err BadBytes → Ends last h rest
ends_bad last h rest read only is f len begins =
    let gives : Some (Whole f len) ≡ None = subst (λ (r : Result FrameRead CodecFault). Gives (λ x. x) r (Some (Whole f len))) is (only (Whole f len) begins) in
    cc

pub ends_above : (last : ℕ) (h : Header) (rest : List ℕ) (read : Result FrameRead CodecFault) (frame : Frame) (used : ℕ)
    → ((there : FrameRead) → IsFront h.version h.m h.f rest there → Gives (λ x. x) read (Some there))
    → read ≡ Ok (Whole frame used) → last < frame.number → Ends last h rest
ends_above last h rest read frame used only is more f len begins =
    let gives : Some (Whole f len) ≡ Some (Whole frame used) = subst (λ (r : Result FrameRead CodecFault). Gives (λ x. x) r (Some (Whole f len))) is (only (Whole f len) begins) in
    let same : f ≡ frame = cc in
    subst (λ (x : Frame). last < x.number) (sym same) more

-- no frame is spelled by no bytes
ends_empty : (last : ℕ) (h : Header) (rest : List ℕ) → rest ≡ [] → Ends last h rest
ends_empty last h rest none f len begins = (let spelled : [] ≡ frame_bytes_in h.version f ++ begins.1 = sym none ∙ begins.2 in cc)

-- ---- a walk over a segment

length_none : (xs : List ℕ) → length xs ≡ 0 → xs ≡ []
length_none [] none = refl
length_none (x ∷ xs) none = cc

pub walk_goes_on : (last : ℕ) (h : Header) (bytes : List ℕ) (steps at kept end : ℕ) → IsWalked last h bytes steps at kept → IsNext last h bytes at end
    → IsWalked last h bytes (steps + 1) end end
walk_goes_on last h bytes steps at kept end walked next =
    let here : walked.rest ≡ frame_bytes_in h.version next.frame ++ next.begins.1 =
    sym (rest_is bytes (flat_map (frame_bytes_in h.version) walked.frames) walked.rest at walked.parts walked.there) ∙ next.begins.2 in
    let more : flat_map (frame_bytes_in h.version) (walked.frames ++ next.frame ∷ []) ≡ flat_map (frame_bytes_in h.version) walked.frames ++ frame_bytes_in h.version next.frame =
    spelled_more h walked.frames next.frame in
    let long : length (flat_map (frame_bytes_in h.version) (walked.frames ++ next.frame ∷ [])) ≡ length (flat_map (frame_bytes_in h.version) walked.frames) + length (frame_bytes_in h.version next.frame) =
    ap length more ∙ length-append (flat_map (frame_bytes_in h.version) walked.frames) (frame_bytes_in h.version next.frame) in
    let there : end ≡ 24 + length (flat_map (frame_bytes_in h.version) (walked.frames ++ next.frame ∷ [])) =
    (let a = next.is in let b = walked.there in let c = next.begins.3 in omega arith) in
    record {
      frames = walked.frames ++ next.frame ∷ [];
      rest = next.begins.1;
      parts = walked.parts ∙ ap (λ (l : List ℕ). flat_map (frame_bytes_in h.version) walked.frames ++ l) here
          ∙ sym (append_assoc (flat_map (frame_bytes_in h.version) walked.frames) (frame_bytes_in h.version next.frame) next.begins.1)
          ∙ ap (λ (l : List ℕ). l ++ next.begins.1) (sym more);
      each = each_more last h walked.frames next.frame walked.each (next.begins.0, next.number);
      there = there;
      is = there ∙ sym (end_is h walked.frames next.frame);
      far = (let a = walked.far in let b : 1 ≤ length (frame_bytes_in h.version next.frame) = omega arith in omega arith);
    }

pub walk_ends : (last : ℕ) (h : Header) (bytes : List ℕ) (steps at kept : ℕ) → IsWalked last h bytes steps at kept → Ends last h (drop at bytes) → IsKeptAfter last h bytes kept
walk_ends last h bytes steps at kept walked ends = record {
  frames = walked.frames;
  rest = walked.rest;
  parts = walked.parts;
  each = walked.each;
  ends = subst (λ (l : List ℕ). Ends last h l) (rest_is bytes (flat_map (frame_bytes_in h.version) walked.frames) walked.rest at walked.parts walked.there) ends;
  is = walked.is;
}

-- a frame has bytes, so there are fewer frames than bytes
pub walk_is_over : (last : ℕ) (h : Header) (bytes : List ℕ) (steps at kept : ℕ) → IsWalked last h bytes steps at kept → length bytes ≤ steps → IsKeptAfter last h bytes kept
walk_is_over last h bytes steps at kept walked over =
    let long : length (drop 24 bytes) ≡ length (flat_map (frame_bytes_in h.version) walked.frames) + length walked.rest =
    ap length walked.parts ∙ length-append (flat_map (frame_bytes_in h.version) walked.frames) walked.rest in
    let short : length (drop 24 bytes) ≡ length bytes - 24 = length-drop 24 bytes in
    let far = walked.far in
    record {
      frames = walked.frames;
      rest = walked.rest;
      parts = walked.parts;
      each = walked.each;
      ends = ends_empty last h walked.rest (length_none walked.rest (omega arith));
      is = walked.is;
    }
