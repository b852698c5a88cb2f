use Rattle.std.proofs.Common.{◌≡◌, ◌+◌, ◌-◌, ◌++◌, length}
use Rattle.bw_log.specs.Contents.{counted}
use Rattle.bw_care.specs.Cleaning.{old_from}
use Rattle.bw_care.specs.Views.{seen}
use Rattle.bw_care.proofs.moves.old_pages.Given as goal

abbrev pub invariant-loop-index : goal.invariant-loop-index
invariant-loop-index g l =
    l.pages.items
    ++ old_from l.last (counted (seen l.log (λ b. (goal.Segment-dyn g b).holding b.1))) (l.index + 1)
    (length (seen l.log (λ b. (goal.Segment-dyn g b).holding b.1)).pages - l.index)
    ≡ old_from l.last (counted (seen l.log (λ b. (goal.Segment-dyn g b).holding b.1))) 1 (length (seen l.log (λ b. (goal.Segment-dyn g b).holding b.1)).pages)
