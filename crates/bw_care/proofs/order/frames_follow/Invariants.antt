use Rattle.std.proofs.Common.{◌≡◌, ◌-◌, None, length, drop, map}
use Rattle.bw_care.specs.Ordering.{follow_from, line_number}
use Rattle.bw_care.proofs.order.frames_follow.Given as goal

abbrev pub invariant-frames : goal.invariant-frames
invariant-frames l = follow_from l.last (map line_number (drop l.at l.lines)) ≡ follow_from None (map line_number l.lines)

abbrev pub decreases-frames : goal.decreases-frames
decreases-frames l = length l.lines - l.at
