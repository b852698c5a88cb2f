-- The two appends of a frame, each by itself: a header that begins a segment, and the frame.

use Rattle.std.specs.Prelude.{ℕ, ◌+◌, ◌-◌, ◌^◌, ◌<◌, ◌≤◌, ◌≡◌, true, Option, Some, None, IfSome, slice_get, [], ◌∷◌, ◌++◌, length}
use Rattle.bw_record.specs.Version.{latest}
use Rattle.bw_codec.specs.Grammar.{frame_bytes, header_bytes}
use Rattle.bw_record.specs.declared.block.Frame.{Frame}
use Rattle.bw_device.specs.Holding.{Holding, appended}
use Rattle.bw_log.specs.Segments.{following, entry_of}
use Rattle.bw_log.specs.Contents.{Contents, boxes}
use Rattle.bw_log.specs.Appends.{header_of, with_first, with_last, torn, last_of, Rose}
use Rattle.bw_log.specs.PageTable.{noted_all, grown_to, top_page}
use Rattle.bw_log.specs.declared.fault.LogFault.{LogFault}
use Rattle.bw_log.specs.declared.fault.LogFault.TheVariants.{NoMemory, BadConfig, NoSegment, Device, Failed, Spent, NoPage}

-- the fault is the device's, and this holds of the lease
abbrev pub OfDevice : LogFault → (ℕ → Type 0) → Type 0
OfDevice NoMemory P = ⊥
OfDevice BadConfig P = ⊥
OfDevice NoSegment P = ⊥
OfDevice (Device lease) P = P lease
OfDevice Failed P = ⊥
OfDevice Spent P = ⊥
OfDevice NoPage P = ⊥

-- the first spare takes a header, could count a failure, and a number is there for it
pub record Beginnable (c : Contents) : Type 0 where
  pub some : 0 < length c.spares
  pub fits : IfSome (slice_get c.spares 0) (λ h. length h.bytes + 24 ≤ h.room)
  pub countable : IfSome (slice_get c.spares 0) (λ h. h.failed < 2 ^ 64 - 1)
  pub number : c.number + length c.live < 2 ^ 64

-- the header's append failed: the first spare has a beginning of it
pub record SpareTorn (lease : ℕ) (old new : Contents) : Type 0 where
  pub kept : ℕ
  pub is : new ≡ record old { spares = with_first (torn kept (header_bytes (header_of old))) old.spares; is_failed = true }
  pub rose : Rose lease (boxes old) (boxes new)

abbrev pub length_of : Option Holding → ℕ
length_of None = 0
length_of (Some h) = length h.bytes

-- the frame stands at the end of the current segment, and the tables say so
abbrev pub with_frame : Contents → Frame → Contents
with_frame old x = record old {
  live = with_last (λ h. appended h (frame_bytes x)) old.live;
  next = following x.number;
  frames = old.frames ++ entry_of latest (old.number + (length old.live - 1)) (length_of (last_of old.live)) x ∷ [];
  pages = noted_all x.number 0 x.blocks (grown_to (top_page x.blocks) old.pages);
}

-- the frame's append went through
pub record FramePut (old : Contents) (x : Frame) (new : Contents) : Type 0 where
  pub is : new ≡ with_frame old x

-- the frame's append failed: the current segment has a beginning of it
pub record FrameTorn (lease : ℕ) (old : Contents) (x : Frame) (new : Contents) : Type 0 where
  pub kept : ℕ
  pub is : new ≡ record old { live = with_last (torn kept (frame_bytes x)) old.live; is_failed = true }
  pub rose : Rose lease (boxes old) (boxes new)
