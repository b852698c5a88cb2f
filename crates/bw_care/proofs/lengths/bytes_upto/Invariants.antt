use Rattle.std.proofs.Common.{◌≡◌, take}
use Rattle.bw_care.specs.Views.{seen}
use Rattle.bw_care.specs.Tallies.{bytes_of, up}
use Rattle.bw_care.proofs.lengths.bytes_upto.Given as goal

abbrev pub invariant-segments : goal.invariant-segments
invariant-segments g l = l.bytes ≡ up 0 (bytes_of (take l.i (seen l.log (λ b. (goal.Segment-dyn g b).holding b.1)).live))
