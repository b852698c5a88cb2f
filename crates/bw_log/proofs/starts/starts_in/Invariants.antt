use Rattle.std.proofs.Common.{◌≡◌, ◌≤◌, ◌<◌, ◌^◌, ℕ, length}
use Rattle.bw_codec.specs.Grammar.{frame_bytes_in, IsFrameIn}
use Rattle.bw_record.specs.declared.block.Frame.{Frame}
use Rattle.bw_log.proofs.Looked.{Passed}
use Rattle.bw_log.proofs.starts.starts_in.Given as goal

abbrev pub invariant-loop-rest : goal.invariant-loop-rest
invariant-loop-rest l = record {
  within : length l.rest ≤ length l.bytes;
  passed : (m f : ℕ) (frame : Frame) → m < 2 ^ 16 → IsFrameIn l.version m f frame → l.bytes ≡ frame_bytes_in l.version frame
      → Passed l.version m frame l.bytes l.rest l.starts.items;
}

abbrev pub decreases-loop-rest : goal.decreases-loop-rest
decreases-loop-rest l = length l.rest
