use Rattle.std.proofs.Common.{◌≡◌, ◌-◌, length}
use Rattle.bw_care.specs.Ahead.{AreSpots}
use Rattle.bw_care.specs.Views.{seen}
use Rattle.bw_care.proofs.FrameNoted.{Noting}
use Rattle.bw_care.proofs.copies.note_frame.Given as goal

abbrev pub invariant-loop-at : goal.invariant-loop-at
invariant-loop-at g l = record {
  many : length l.spots ≡ length l.pages;
  spots : AreSpots (seen l.log (λ b. (goal.Segment-dyn g b).holding b.1)) l.bytes l.spots l.pages;
  walk : Noting (seen l.log (λ b. (goal.Segment-dyn g b).holding b.1)) l.bytes l.line l.end l.at l.index;
}

abbrev pub decreases-loop-at : goal.decreases-loop-at
decreases-loop-at g l = l.end - l.at
