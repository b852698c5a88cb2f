-- Bytes that are a whole frame, and nothing else.

use Rattle.std.specs.Prelude.{ℕ, ◌≡◌, ◌<◌, ◌^◌, Option, Some, None, List, []}
use Rattle.bw_codec.specs.Grammar.{frame_bytes_in, IsFrameIn}
use Rattle.bw_codec.specs.Reading.{front_at}
use Rattle.bw_record.specs.declared.block.Frame.{Frame}
use Rattle.bw_codec.specs.declared.head.Header.{Header}
use Rattle.bw_codec.specs.declared.head.FrameRead.{FrameRead}
use Rattle.bw_codec.specs.declared.head.FrameRead.TheVariants.{Whole, Tail}

pub record IsSpelling (v m f : ℕ) (frame : Frame) (bytes : List ℕ) : Type 0 where
  pub small : m < 2 ^ 16
  pub law : IsFrameIn v m f frame
  pub parts : bytes ≡ frame_bytes_in v frame

-- the frame that was read; one of no blocks if none was
abbrev pub frame_by : Option FrameRead → Frame
frame_by (Some (Whole frame used)) = frame
frame_by (Some Tail) = record { number = 0; blocks = [] }
frame_by None = record { number = 0; blocks = [] }

-- the frame that stands at the front of bytes after a header
abbrev pub frame_first : Header → List ℕ → Frame
frame_first k bytes = frame_by (front_at k.version k.m k.f bytes)
