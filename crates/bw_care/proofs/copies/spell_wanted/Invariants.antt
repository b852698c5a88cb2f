use Rattle.std.proofs.Common.{◌≡◌, length}
use Rattle.bw_leaf.specs.Forwards.{blocks_of}
use Rattle.bw_care.specs.Ahead.{AreSpots, oldest_frames, Says}
use Rattle.bw_care.specs.Views.{seen}
use Rattle.bw_care.proofs.copies.spell_wanted.Given as goal

abbrev pub invariant-loop-at : goal.invariant-loop-at
invariant-loop-at g l = record {
  many : length l.spots ≡ length l.pages;
  says : Says (blocks_of (oldest_frames (seen l.log (λ b. (goal.Segment-dyn g b).holding b.1)).live)) l.lines;
  spots : AreSpots (seen l.log (λ b. (goal.Segment-dyn g b).holding b.1)) l.bytes.items l.spots l.pages;
}
