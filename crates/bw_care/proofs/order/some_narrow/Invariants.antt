use Rattle.std.proofs.Common.{◌≡◌, ◌-◌, length, drop}
use Rattle.bw_care.specs.Ordering.{any_narrow}
use Rattle.bw_care.proofs.order.some_narrow.Given as goal

abbrev pub invariant-scans : goal.invariant-scans
invariant-scans l = any_narrow l.least (drop l.at l.scans) (drop l.at l.rooms) ≡ any_narrow l.least l.scans l.rooms

abbrev pub decreases-scans : goal.decreases-scans
decreases-scans l = length l.scans - l.at
