use Rattle.std.proofs.Common.{◌≡◌, length}
use Rattle.bw_care.specs.Ahead.{AreSpots}
use Rattle.bw_care.specs.Views.{seen}
use Rattle.bw_care.proofs.copies.find_spots.Given as goal

abbrev pub invariant-loop-i : goal.invariant-loop-i
invariant-loop-i g l = record {
  many : length l.spots.items ≡ length l.pages;
  spots : AreSpots (seen l.log (λ b. (goal.Segment-dyn g b).holding b.1)) l.bytes l.spots.items l.pages;
}
