use Rattle.std.proofs.Common.{◌≡◌, ◌+◌, map, drop}
use Rattle.bw_codec.specs.Reading.{version_in}
use Rattle.bw_log.specs.Adopting.{old_in}
use Rattle.bw_care.specs.Upgrading.{old_segments}
use Rattle.bw_care.specs.Views.{seen}
use Rattle.bw_care.proofs.upgrader.old_segments.Given as goal

abbrev pub invariant-loop-i : goal.invariant-loop-i
invariant-loop-i g l =
    l.i + old_in (map (λ h. version_in h.bytes) (drop l.i (seen l.log (λ b. (goal.Segment-dyn g b).holding b.1)).live))
    ≡ old_segments (seen l.log (λ b. (goal.Segment-dyn g b).holding b.1))
