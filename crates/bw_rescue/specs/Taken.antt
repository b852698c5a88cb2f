-- The whole frames that are taken from a segment, be others damaged or not.

use Rattle.std.specs.Prelude.{ℕ, ◌+◌, ◌≡◌, ◌<◌, ◌⊎◌, Bool, if◌then◌else◌, List, [], ◌∷◌, ◌++◌, length, drop}
use Rattle.std.specs.List.{flat_map, AllByRecursion}
use Rattle.bw_record.specs.declared.block.Frame.{Frame}
use Rattle.bw_codec.specs.declared.head.Header.{Header}
use Rattle.bw_codec.specs.declared.head.FrameRead.TheVariants.{Whole}
use Rattle.bw_codec.specs.declared.head.HeaderRead.{HeaderRead}
use Rattle.bw_codec.specs.declared.head.HeaderRead.TheVariants as heading
use Rattle.bw_codec.specs.Grammar.{frame_bytes_in, IsFrameIn, IsFront, IsHeading}
use Rattle.bw_rescue.specs.Hurt.{is_hurt}
use Rattle.bw_rescue.specs.declared.held.Spot.{Spot}

-- ---- by which frames are read

-- a header that allows all pairs and bytes that a format does
abbrev pub widest : ℕ → Header
widest version = record { version = version; number = 1; m = 32; f = 262144 }

-- the format in a whole header; of a damaged one either
abbrev pub IsFormat : HeaderRead → ℕ → Type 0
IsFormat (heading.Whole header) version = version ≡ header.version
IsFormat heading.Part version = (version ≡ 1) ⊎ (version ≡ 2)
IsFormat heading.Bad version = (version ≡ 1) ⊎ (version ≡ 2)

-- of a segment's own header only the format counts
pub record IsReadBy (bytes : List ℕ) (header : Header) : Type 0 where
  pub own : HeaderRead
  pub stands : IsHeading bytes own
  pub version : IsFormat own header.version
  pub is : header ≡ widest header.version

-- ---- one frame

-- a whole frame stands at an offset, in so many bytes
abbrev pub StandsAt : Header → List ℕ → ℕ → Frame → ℕ → Type 0
StandsAt header bytes at frame len = IsFront header.version header.m header.f (drop at bytes) (Whole frame len)

abbrev pub NoneAt : Header → List ℕ → ℕ → Type 0
NoneAt header bytes at = (frame : Frame) (len : ℕ) → StandsAt header bytes at frame len → ⊥

-- a whole frame of this number stands there
pub record IsSpotAt (header : Header) (bytes : List ℕ) (number at : ℕ) : Type 0 where
  pub frame : Frame
  pub len : ℕ
  pub stands : StandsAt header bytes at frame len
  pub is : frame.number ≡ number

-- ---- all that are taken

-- their numbers ascend, the first is above this one
abbrev pub Ascend : ℕ → List Spot → Type 0
Ascend low [] = Unit {0}
Ascend low (s ∷ spots) = (low < s.number) × Ascend s.number spots

-- the number of the last one
abbrev pub last_of : ℕ → List Spot → ℕ
last_of low [] = low
last_of low (s ∷ spots) = last_of s.number spots

-- each is a whole frame, and their numbers ascend to the last
pub record AreTaken (header : Header) (bytes : List ℕ) (last : ℕ) (spots : List Spot) : Type 0 where
  pub each : AllByRecursion (λ s. IsSpotAt header bytes s.number s.at) spots
  pub ascend : Ascend 0 spots
  pub is : last ≡ last_of 0 spots

-- ---- all that stand in a row

-- their numbers ascend, the first is above this one
abbrev pub Rise : ℕ → List Frame → Type 0
Rise low [] = Unit {0}
Rise low (f ∷ fs) = (low < f.number) × Rise f.number fs

-- whole frames stand one after the other from an offset on
pub record StandFrom (header : Header) (bytes : List ℕ) (at low : ℕ) (frames : List Frame) : Type 0 where
  pub each : AllByRecursion (IsFrameIn header.version header.m header.f) frames
  pub rise : Rise low frames
  pub rest : List ℕ
  pub parts : drop at bytes ≡ flat_map (frame_bytes_in header.version) frames ++ rest

-- where they begin, but for those of which each is a piece by itself that is hurt
abbrev pub spots_from : (ℕ → ℕ → Bool) → ℕ → ℕ → List Frame → List Spot
spots_from hurt v at [] = []
spots_from hurt v at (f ∷ fs) =
    if hurt at (at + length (frame_bytes_in v f)) then spots_from hurt v (at + length (frame_bytes_in v f)) fs
    else (record { number = f.number; at = at }) ∷ spots_from hurt v (at + length (frame_bytes_in v f)) fs

abbrev pub BeginsWith : List Spot → List Spot → Type 0
BeginsWith first spots = (more : List Spot) × (spots ≡ first ++ more)

-- all frames are taken that stand in a row after the header, but for those that are hurt; others
-- may follow, since a value may hold the image of a frame
abbrev pub TakesAll : Header → List ℕ → List ℕ → List Spot → Type 0
TakesAll header bytes sums spots =
    (frames : List Frame) → StandFrom header bytes 24 0 frames → BeginsWith (spots_from (is_hurt bytes sums) header.version 24 frames) spots
