-- What stands after a segment's header, and what was read of it.

use Rattle.std.specs.Prelude.{◌++◌, ℕ, ◌≡◌, None, List, length, drop, map}
use Rattle.std.specs.List.{flat_map, AllByRecursion}
use Rattle.bw_codec.specs.Grammar.{frame_bytes_in, IsFrameIn, IsTailIn}
use Rattle.bw_record.specs.declared.block.Frame.{Frame}
use Rattle.bw_codec.specs.declared.head.Header.{Header}
use Rattle.bw_log.specs.Segments.{frames_at, entries_from}
use Rattle.bw_care.specs.Scanning.{rest_of, fault_behind}
use Rattle.bw_care.specs.declared.scan.Behind.{Behind}

-- the whole frames after a header
abbrev pub frames_behind : Header → List ℕ → List Frame
frames_behind head bytes = (frames_at (length bytes) head.version head.m head.f (drop 24 bytes)).0

-- after the last of them stands a tail
abbrev pub EndsInTail : Header → List ℕ → Type 0
EndsInTail head bytes = fault_behind head bytes ≡ None

-- where all whole frames stand; the bytes after them are a tail
pub record IsBehind (head : Header) (bytes : List ℕ) (b : Behind) : Type 0 where
  pub lines : b.lines.items ≡ map (λ e. e.0) (entries_from head.version 0 24 (frames_behind head bytes))
  pub tail : b.tail ≡ length (rest_of head bytes)
  pub lawful : EndsInTail head bytes
  pub laws : AllByRecursion (IsFrameIn head.version head.m head.f) (frames_behind head bytes)
  pub parts : drop 24 bytes ≡ flat_map (frame_bytes_in head.version) (frames_behind head bytes) ++ rest_of head bytes
  pub torn : IsTailIn head.version head.f (rest_of head bytes)
