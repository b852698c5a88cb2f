-- A segment as it was when a frame was the last one of its log.

use Rattle.std.specs.Prelude.{ℕ, ◌+◌, ◌≡◌, ◌≤◌, ◌<◌, List, [], ◌∷◌, ◌++◌, length, drop}
use Rattle.std.specs.List.{flat_map, AllByRecursion}
use Rattle.bw_record.specs.declared.block.Frame.{Frame}
use Rattle.bw_codec.specs.declared.head.Header.{Header}
use Rattle.bw_codec.specs.declared.head.FrameRead.TheVariants.{Whole}
use Rattle.bw_codec.specs.declared.head.HeaderRead.{HeaderRead}
use Rattle.bw_codec.specs.declared.head.HeaderRead.TheVariants as heading
use Rattle.bw_codec.specs.Grammar.{frame_bytes_in, IsFrameIn, IsFront, IsHeading}

-- a lawful frame of a segment, of this number at most
abbrev pub IsUpTo : ℕ → Header → Frame → Type 0
IsUpTo last h f = IsFrameIn h.version h.m h.f f × (f.number ≤ last)

-- a whole frame stands at the front of bytes, in so many of them
abbrev pub Begins : Header → List ℕ → Frame → ℕ → Type 0
Begins h bytes f len = IsFront h.version h.m h.f bytes (Whole f len)

-- a whole frame that stands here has a greater number
abbrev pub Ends : ℕ → Header → List ℕ → Type 0
Ends last h bytes = (f : Frame) (len : ℕ) → Begins h bytes f len → last < f.number

-- a frame that may be kept stands at an offset, and ends at another
pub record IsNext (last : ℕ) (h : Header) (bytes : List ℕ) (at end : ℕ) : Type 0 where
  pub frame : Frame
  pub len : ℕ
  pub begins : Begins h (drop at bytes) frame len
  pub number : frame.number ≤ last
  pub is : end ≡ at + len

-- where frames end that stand after a header; 0 if there is none
abbrev pub end_of : Header → List Frame → ℕ
end_of h [] = 0
end_of h (f ∷ fs) = 24 + length (flat_map (frame_bytes_in h.version) (f ∷ fs))

-- after its header a segment has these frames, of which all are kept, and the next one is not
pub record IsKeptAfter (last : ℕ) (h : Header) (bytes : List ℕ) (kept : ℕ) : Type 0 where
  pub frames : List Frame
  pub rest : List ℕ
  pub parts : drop 24 bytes ≡ flat_map (frame_bytes_in h.version) frames ++ rest
  pub each : AllByRecursion (IsUpTo last h) frames
  pub ends : Ends last h rest
  pub is : kept ≡ end_of h frames

-- of a segment without a header nothing is kept
abbrev pub KeptBy : ℕ → HeaderRead → List ℕ → ℕ → Type 0
KeptBy last (heading.Whole h) bytes kept = IsKeptAfter last h bytes kept
KeptBy last heading.Part bytes kept = kept ≡ 0
KeptBy last heading.Bad bytes kept = kept ≡ 0

-- so many bytes of a segment are its header and its frames up to this number
pub record IsKept (last : ℕ) (bytes : List ℕ) (kept : ℕ) : Type 0 where
  pub own : HeaderRead
  pub stands : IsHeading bytes own
  pub is : KeptBy last own bytes kept
