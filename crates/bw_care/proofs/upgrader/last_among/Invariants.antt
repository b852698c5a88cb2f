use Rattle.std.proofs.Common.{◌≡◌, take}
use Rattle.bw_care.specs.Upgrading.{last_among}
use Rattle.bw_care.specs.Views.{seen}
use Rattle.bw_care.proofs.upgrader.last_among.Given as goal

abbrev pub invariant-loop-i : goal.invariant-loop-i
invariant-loop-i g l =
    l.last ≡ last_among (seen l.log (λ b. (goal.Segment-dyn g b).holding b.1)) (take l.i (seen l.log (λ b. (goal.Segment-dyn g b).holding b.1)).live)
