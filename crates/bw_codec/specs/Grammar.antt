-- The one spelling of each block, frame and header in a format, and which of them are lawful there: `docs/FORMAT.md`.

use Rattle.std.specs.Prelude.{ℕ, ◌+◌, ◌^◌, ◌<◌, ◌≤◌, ◌≡◌, ◌≢◌, ◌⊎◌, ◌==◌, ◌&&◌, ◌||◌, nat_lt, nat_le, Bool, IsTrue, List, [], ◌∷◌, ◌++◌, length}
use Rattle.std.specs.List.{flat_map, list_all, zip, AllByRecursion}
use Rattle.bw_codec.specs.Bytes.{number_bytes, text, value_bytes}
use Rattle.bw_record.specs.Keys.{ascends}
use Rattle.bw_record.specs.Lawful.{IsPairIn, IsOpIn}
use Rattle.bw_record.specs.Version.{latest, digit, key_limit, least_limit, greatest_limit}
use Rattle.bw_record.specs.declared.record.Record.{Record}
use Rattle.bw_record.specs.declared.record.Record.TheVariants.{Put, Del}
use Rattle.bw_record.specs.declared.leaf.Leaf.{Leaf}
use Rattle.bw_record.specs.declared.block.Place.{Place}
use Rattle.bw_record.specs.declared.block.Block.{Block}
use Rattle.bw_record.specs.declared.block.Block.TheVariants.{Delta, Base, Split}
use Rattle.bw_record.specs.declared.block.Frame.{Frame}
use Rattle.bw_codec.specs.declared.head.Head.{Head}
use Rattle.bw_codec.specs.declared.head.Header.{Header}
use Rattle.bw_codec.specs.declared.head.FrameRead.{FrameRead}
use Rattle.bw_codec.specs.declared.head.FrameRead.TheVariants.{Whole, Tail}
use Rattle.bw_codec.specs.declared.head.HeaderRead.{HeaderRead}
use Rattle.bw_codec.specs.declared.head.HeaderRead.TheVariants as heading

-- ---- the spelling in a format

abbrev pub op_bytes_in : ℕ → Record → List ℕ
op_bytes_in v (Put key value) = 1 ∷ (text key ++ value_bytes v value)
op_bytes_in v (Del key) = 2 ∷ text key

abbrev pub pair_bytes_in : ℕ → List ℕ × List ℕ → List ℕ
pair_bytes_in v p = text p.0 ++ value_bytes v p.1

abbrev pub place_bytes : Place → List ℕ
place_bytes p = number_bytes 8 p.frame ++ number_bytes 4 p.index

abbrev pub pairs_bytes_in : ℕ → List (List ℕ × List ℕ) → List ℕ
pairs_bytes_in v ps = number_bytes 2 (length ps) ++ flat_map (pair_bytes_in v) ps

abbrev pub ops_bytes_in : ℕ → List Record → List ℕ
ops_bytes_in v ops = number_bytes 2 (length ops) ++ flat_map (op_bytes_in v) ops

-- a Delta before its records, of which there are so many
abbrev pub delta_front : ℕ → Place → ℕ → List ℕ
delta_front page back ops = 1 ∷ (number_bytes 4 page ++ (place_bytes back ++ number_bytes 2 ops))

-- the new page of a Split
abbrev pub upper_bytes_in : ℕ → Leaf → List ℕ
upper_bytes_in v leaf = text leaf.low ++ (number_bytes 4 leaf.page ++ pairs_bytes_in v leaf.pairs)

abbrev pub block_bytes_in : ℕ → Block → List ℕ
block_bytes_in v (Delta page back ops) = 1 ∷ (number_bytes 4 page ++ (place_bytes back ++ ops_bytes_in v ops))
block_bytes_in v (Base leaf) = 2 ∷ (number_bytes 4 leaf.page ++ (text leaf.low ++ pairs_bytes_in v leaf.pairs))
block_bytes_in v (Split page back upper) = 3 ∷ (number_bytes 4 page ++ (place_bytes back ++ upper_bytes_in v upper))

abbrev pub body_bytes_in : ℕ → List Block → List ℕ
body_bytes_in v blocks = flat_map (block_bytes_in v) blocks

-- FRM1 or FRM2
abbrev pub frame_word : ℕ → List ℕ
frame_word v = 70 ∷ 82 ∷ 77 ∷ digit v ∷ []

-- BWLOGSG1 or BWLOGSG2
abbrev pub segment_word : ℕ → List ℕ
segment_word v = 66 ∷ 87 ∷ 76 ∷ 79 ∷ 71 ∷ 83 ∷ 71 ∷ digit v ∷ []

abbrev pub head_bytes_in : ℕ → ℕ → ℕ → ℕ → List ℕ
head_bytes_in v number body blocks = frame_word v ++ (number_bytes 8 number ++ (number_bytes 4 body ++ number_bytes 4 blocks))

abbrev pub frame_bytes_in : ℕ → Frame → List ℕ
frame_bytes_in v f = head_bytes_in v f.number (length (body_bytes_in v f.blocks)) (length f.blocks) ++ body_bytes_in v f.blocks

abbrev pub header_bytes : Header → List ℕ
header_bytes h = segment_word h.version ++ (number_bytes 8 h.number ++ (number_bytes 2 h.m ++ (number_bytes 2 0 ++ number_bytes 4 h.f)))

-- ---- the spelling that is written

abbrev pub op_bytes : Record → List ℕ
op_bytes op = op_bytes_in latest op

abbrev pub pair_bytes : List ℕ × List ℕ → List ℕ
pair_bytes p = pair_bytes_in latest p

abbrev pub pairs_bytes : List (List ℕ × List ℕ) → List ℕ
pairs_bytes ps = pairs_bytes_in latest ps

abbrev pub ops_bytes : List Record → List ℕ
ops_bytes ops = ops_bytes_in latest ops

abbrev pub upper_bytes : Leaf → List ℕ
upper_bytes leaf = upper_bytes_in latest leaf

abbrev pub block_bytes : Block → List ℕ
block_bytes block = block_bytes_in latest block

abbrev pub body_bytes : List Block → List ℕ
body_bytes blocks = body_bytes_in latest blocks

abbrev pub head_bytes : ℕ → ℕ → ℕ → List ℕ
head_bytes number body blocks = head_bytes_in latest number body blocks

abbrev pub frame_bytes : Frame → List ℕ
frame_bytes f = frame_bytes_in latest f

-- ---- what is lawful in a format

abbrev pub IsPage : ℕ → Type 0
IsPage page = (1 ≤ page) × (page < 2 ^ 32)

pub record IsPlace (p : Place) : Type 0 where
  pub frame : (1 ≤ p.frame) × (p.frame < 2 ^ 64)
  pub index : p.index < 2 ^ 32

pub record IsDeltaIn (v page : ℕ) (back : Place) (ops : List Record) : Type 0 where
  pub changes : IsPage page
  pub links : IsPlace back
  pub count : (1 ≤ length ops) × (length ops < 2 ^ 16)
  pub each : AllByRecursion (IsOpIn v) ops

-- a leaf of at most m pairs, in the order of their keys
pub record IsBaseIn (v m : ℕ) (leaf : Leaf) : Type 0 where
  pub page : IsPage leaf.page
  pub low : length leaf.low ≤ key_limit v
  pub count : length leaf.pairs ≤ m
  pub pairs : AllByRecursion (IsPairIn v) leaf.pairs
  pub ascends : IsTrue (ascends leaf.pairs)

-- the first pair's key, or nothing
abbrev pub first_key : List (List ℕ × List ℕ) → List ℕ
first_key [] = []
first_key (p ∷ ps) = p.0

pub record IsSplitIn (v m page : ℕ) (back : Place) (upper : Leaf) : Type 0 where
  pub splits : IsPage page
  pub links : IsPlace back
  pub makes : IsBaseIn v m upper
  pub low : upper.low ≡ first_key upper.pairs
  pub count : 1 ≤ length upper.pairs
  pub new : (2 ≤ upper.page) × (upper.page ≢ page)

abbrev pub IsBlockIn : ℕ → ℕ → Block → Type 0
IsBlockIn v m (Delta page back ops) = IsDeltaIn v page back ops
IsBlockIn v m (Base leaf) = IsBaseIn v m leaf
IsBlockIn v m (Split page back upper) = IsSplitIn v m page back upper

-- whether a frame of at most f bytes may begin so
abbrev pub is_head : ℕ → Head → Bool
is_head f h = nat_lt 0 h.number && nat_le 8 h.body && nat_le (h.body + 20) f && nat_lt 0 h.blocks

-- the numbers in a frame's head
pub record IsHead (f number body blocks : ℕ) : Type 0 where
  pub numbered : (1 ≤ number) × (number < 2 ^ 64)
  pub fits : (8 ≤ body) × (body + 20 ≤ f)
  pub some : (1 ≤ blocks) × (blocks < 2 ^ 32)

pub record IsFrameIn (v m f : ℕ) (frame : Frame) : Type 0 where
  pub head : IsHead f frame.number (length (body_bytes_in v frame.blocks)) (length frame.blocks)
  pub blocks : AllByRecursion (IsBlockIn v m) frame.blocks

pub record IsHeader (h : Header) : Type 0 where
  pub version : (h.version ≡ 1) ⊎ (h.version ≡ 2)
  pub number : (1 ≤ h.number) × (h.number < 2 ^ 64)
  pub m : (4 ≤ h.m) × (h.m ≤ 32)
  pub f : (least_limit h.version ≤ h.f) × (h.f ≤ greatest_limit h.version)

-- ---- what may be written

abbrev pub IsDelta : ℕ → Place → List Record → Type 0
IsDelta page back ops = IsDeltaIn latest page back ops

abbrev pub IsBase : ℕ → Leaf → Type 0
IsBase m leaf = IsBaseIn latest m leaf

abbrev pub IsSplit : ℕ → ℕ → Place → Leaf → Type 0
IsSplit m page back upper = IsSplitIn latest m page back upper

abbrev pub IsBlock : ℕ → Block → Type 0
IsBlock m block = IsBlockIn latest m block

abbrev pub IsFrame : ℕ → ℕ → Frame → Type 0
IsFrame m f frame = IsFrameIn latest m f frame

-- ---- what was torn off

-- bytes agree with a word as far as both go
abbrev pub agrees : List ℕ → List ℕ → Bool
agrees bytes word = list_all (λ p. p.0 == p.1) (zip word bytes)

-- bytes at which a frame was torn off: in its head, or in its body
abbrev pub IsTailIn : ℕ → ℕ → List ℕ → Type 0
IsTailIn v f bytes =
    ((length bytes < 20) × IsTrue (agrees bytes (frame_word v)))
    ⊎ ((head : Head) × (rest : List ℕ) × IsHead f head.number head.body head.blocks × (length rest < head.body)
    × (bytes ≡ head_bytes_in v head.number head.body head.blocks ++ rest))

-- bytes agree with a format's word, as far as both go
abbrev pub AgreesIn : ℕ → List ℕ → Type 0
AgreesIn v bytes = IsTrue (agrees bytes (segment_word v))

-- bytes at which a header was torn off, of either format
abbrev pub IsPart : List ℕ → Type 0
IsPart bytes = (1 ≤ length bytes) × (length bytes < 24) × (AgreesIn 1 bytes ⊎ AgreesIn 2 bytes)

-- what stands at the front of bytes
abbrev pub IsFront : ℕ → ℕ → ℕ → List ℕ → FrameRead → Type 0
IsFront v m f bytes (Whole frame used) =
    IsFrameIn v m f frame × (rest : List ℕ) × (bytes ≡ frame_bytes_in v frame ++ rest) × (used ≡ length (frame_bytes_in v frame))
IsFront v m f bytes Tail = IsTailIn v f bytes

-- the block that stands at the front of bytes
abbrev pub IsFirst : ℕ → ℕ → List ℕ → Block → Type 0
IsFirst v m bytes block = IsBlockIn v m block × (rest : List ℕ) × (bytes ≡ block_bytes_in v block ++ rest)

-- whether a segment may begin so
abbrev pub is_header : Header → Bool
is_header h =
    (h.version == 1 || h.version == 2)
    && nat_lt 0 h.number
    && nat_le 4 h.m
    && nat_le h.m 32
    && nat_le (least_limit h.version) h.f
    && nat_le h.f (greatest_limit h.version)

-- what a segment begins with
abbrev pub IsHeading : List ℕ → HeaderRead → Type 0
IsHeading bytes (heading.Whole h) = IsHeader h × (rest : List ℕ) × (bytes ≡ header_bytes h ++ rest)
IsHeading bytes heading.Part = IsPart bytes
IsHeading bytes heading.Bad =
    ((h : Header) (rest : List ℕ) → IsHeader h → bytes ≡ header_bytes h ++ rest → ⊥) × (IsPart bytes → ⊥)

-- ---- a segment

-- a header, frames and a tail
pub record IsWhole (bytes : List ℕ) (header : Header) (frames : List Frame) (torn : List ℕ) : Type 0 where
  pub lawful : IsHeader header
  pub each : AllByRecursion (IsFrameIn header.version header.m header.f) frames
  pub tail : IsTailIn header.version header.f torn
  pub parts : bytes ≡ header_bytes header ++ (flat_map (frame_bytes_in header.version) frames ++ torn)
