-- One whole frame more is taken.

use Rattle.std.proofs.Common.{◌≡◌, ℕ, ◌<◌, Option, Some, None, Result, Ok, Err, List, [], ◌∷◌, ◌++◌, refl, sym, ap, subst, ◌∙◌}
use Rattle.std.specs.List.{AllByRecursion}
use Rattle.bw_record.specs.declared.block.Frame.{Frame}
use Rattle.bw_codec.specs.declared.fault.CodecFault.{CodecFault}
use Rattle.bw_codec.specs.declared.fault.CodecFault.TheVariants.{BadBytes}
use Rattle.bw_codec.specs.declared.head.FrameRead.{FrameRead}
use Rattle.bw_codec.specs.declared.head.FrameRead.TheVariants.{Whole, Tail}
use Rattle.bw_codec.specs.declared.head.Header.{Header}
use Rattle.bw_codec.specs.Grammar.{IsFront}
use Rattle.bw_codec.specs.Reading.{Gives}
use Rattle.bw_rescue.specs.declared.held.Spot.{Spot}
use Rattle.bw_rescue.specs.Taken.{IsSpotAt, Ascend, last_of, AreTaken}

-- ---- whether a frame stands there

-- what stands at the front of bytes is what is read there, so no whole frame if anything else is
pub none_beside : (v m f : ℕ) (rest : List ℕ) (read : Result FrameRead CodecFault) → ((there : FrameRead) → IsFront v m f rest there → Gives (λ x. x) read (Some there))
    → read ≡ Ok Tail → (frame : Frame) (len : ℕ) → IsFront v m f rest (Whole frame len) → ⊥
none_beside v m f rest read only is frame len stands =
    let gives : Some (Whole frame len) ≡ Some Tail = subst (λ (r : Result FrameRead CodecFault). Gives (λ x. x) r (Some (Whole frame len))) is (only (Whole frame len) stands) in
    cc

pub none_if_bad : (v m f : ℕ) (rest : List ℕ) (read : Result FrameRead CodecFault) → ((there : FrameRead) → IsFront v m f rest there → Gives (λ x. x) read (Some there))
    → read ≡ Err BadBytes → (frame : Frame) (len : ℕ) → IsFront v m f rest (Whole frame len) → ⊥
none_if_bad v m f rest read only is frame len stands =
    let gives : Some (Whole frame len) ≡ None = subst (λ (r : Result FrameRead CodecFault). Gives (λ x. x) r (Some (Whole frame len))) is (only (Whole frame len) stands) in
    cc

-- ---- the row of those that are taken

each_more : (header : Header) (bytes : List ℕ) (spots : List Spot) (s : Spot) → AllByRecursion (λ s. IsSpotAt header bytes s.number s.at) spots
    → IsSpotAt header bytes s.number s.at → AllByRecursion (λ s. IsSpotAt header bytes s.number s.at) (spots ++ s ∷ [])
each_more header bytes [] s each this = (this, tt)
each_more header bytes (x ∷ spots) s each this = (each.0, each_more header bytes spots s each.1 this)

above : (low : ℕ) (spots : List Spot) (s : Spot) → Ascend low spots → last_of low spots < s.number → Ascend low (spots ++ s ∷ [])
above low [] s ascend more = (more, tt)
above low (x ∷ spots) s ascend more = (ascend.0, above x.number spots s ascend.1 more)

last_more : (low : ℕ) (spots : List Spot) (s : Spot) → last_of low (spots ++ s ∷ []) ≡ s.number
last_more low [] s = refl
last_more low (x ∷ spots) s = last_more x.number spots s

pub one_taken : (header : Header) (bytes : List ℕ) (last : ℕ) (spots : List Spot) (number at : ℕ) → AreTaken header bytes last spots → IsSpotAt header bytes number at
    → last < number → AreTaken header bytes number (spots ++ (record { number = number; at = at }) ∷ [])
one_taken header bytes last spots number at taken this more = record {
  each = each_more header bytes spots (record { number = number; at = at }) taken.each this;
  ascend = above 0 spots (record { number = number; at = at }) taken.ascend (subst (λ (n : ℕ). n < number) taken.is more);
  is = sym (last_more 0 spots (record { number = number; at = at }));
}

-- what was pushed stands where the walk was
pub pushed : (header : Header) (bytes : List ℕ) (last : ℕ) (spots : List Spot) (number at : ℕ) (old : List Spot) (place : ℕ) (new : List Spot)
    → old ≡ spots → place ≡ at → new ≡ old ++ (record { number = number; at = place }) ∷ []
    → AreTaken header bytes last spots → IsSpotAt header bytes number at → last < number → AreTaken header bytes number new
pushed header bytes last spots number at old place new same there items taken this more =
    let row : new ≡ spots ++ (record { number = number; at = at }) ∷ [] =
    items ∙ ap (λ (l : List Spot). l ++ (record { number = number; at = place }) ∷ []) same
    ∙ ap (λ (k : ℕ). spots ++ (record { number = number; at = k }) ∷ []) there in
    subst (λ (l : List Spot). AreTaken header bytes number l) (sym row) (one_taken header bytes last spots number at taken this more)

-- a whole frame and its length, if one was read
read_as : Frame → ℕ → Option FrameRead → Frame × ℕ
read_as first used (Some (Whole frame len)) = (frame, len)
read_as first used (Some Tail) = (first, used)
read_as first used None = (first, used)

-- it is the one that was read
pub same_whole : (v m f : ℕ) (rest : List ℕ) (read : Result FrameRead CodecFault) (first : Frame) (used : ℕ)
    → ((there : FrameRead) → IsFront v m f rest there → Gives (λ x. x) read (Some there)) → read ≡ Ok (Whole first used)
    → (frame : Frame) (len : ℕ) → IsFront v m f rest (Whole frame len) → ◌≡◌ {A = Option (Frame × ℕ)} (Some (first, used)) (Some (frame, len))
unfolding read_as
same_whole v m f rest read first used only is frame len stands =
    let gives : Some (Whole frame len) ≡ Some (Whole first used) = subst (λ (r : Result FrameRead CodecFault). Gives (λ x. x) r (Some (Whole frame len))) is (only (Whole frame len) stands) in
    sym (ap (λ (o : Option FrameRead). Some (read_as first used o)) gives)
