-- What holds of the grammar itself.

use Rattle.std.specs.Prelude.{ℕ, ◌≡◌, ◌<◌, ◌^◌, List, ◌++◌, length, take}
use Rattle.bw_codec.specs.Grammar.{frame_bytes_in, header_bytes, IsFrameIn, IsHeader, IsTailIn, IsBlock, IsBlockIn}
use Rattle.bw_record.specs.declared.block.Block.{Block}
use Rattle.bw_record.specs.declared.block.Frame.{Frame}
use Rattle.bw_codec.specs.declared.head.Header.{Header}

-- a frame that is lawful in a format has one spelling there, and none begins another's
abbrev pub OneSpelling : Type 0
OneSpelling =
    (v m f : ℕ) → m < 2 ^ 16 → f < 2 ^ 32 → (a b : Frame) (x y : List ℕ) → IsFrameIn v m f a → IsFrameIn v m f b
    → frame_bytes_in v a ++ x ≡ frame_bytes_in v b ++ y → (a ≡ b) × (x ≡ y)

-- each proper beginning of a lawful frame's spelling is a tail
abbrev pub BeginningsAreTails : Type 0
BeginningsAreTails =
    (v m f : ℕ) (a : Frame) (n : ℕ) → IsFrameIn v m f a → n < length (frame_bytes_in v a)
    → IsTailIn v f (take n (frame_bytes_in v a))

-- a lawful header has one spelling
abbrev pub OneHeaderSpelling : Type 0
OneHeaderSpelling =
    (a b : Header) (x y : List ℕ) → IsHeader a → IsHeader b → header_bytes a ++ x ≡ header_bytes b ++ y → (a ≡ b) × (x ≡ y)

-- what is lawful in format 1 may be written in the latest
abbrev pub OldMayBeWritten : Type 0
OldMayBeWritten = (m : ℕ) (block : Block) → IsBlockIn 1 m block → IsBlock m block

-- no frame of one format is one of the other
abbrev pub NoFrameOfBoth : Type 0
NoFrameOfBoth = (a b : Frame) (x y : List ℕ) → frame_bytes_in 1 a ++ x ≡ frame_bytes_in 2 b ++ y → ⊥
