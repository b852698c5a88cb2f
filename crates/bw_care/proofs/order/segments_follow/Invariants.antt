use Rattle.std.proofs.Common.{◌≡◌, ◌-◌, None, length, drop, map}
use Rattle.bw_care.specs.Ordering.{follow_from, number_found}
use Rattle.bw_care.proofs.order.segments_follow.Given as goal

abbrev pub invariant-live : goal.invariant-live
invariant-live l = follow_from l.last (map number_found (drop l.at l.live)) ≡ follow_from None (map number_found l.live)

abbrev pub decreases-live : goal.decreases-live
decreases-live l = length l.live - l.at
