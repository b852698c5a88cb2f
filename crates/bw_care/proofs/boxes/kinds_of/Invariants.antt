use Rattle.std.proofs.Common.{◌≡◌, ◌-◌, ◌++◌, length, drop, map}
use Rattle.bw_care.specs.Surveying.{kind_seen}
use Rattle.bw_care.proofs.boxes.kinds_of.Given as goal

abbrev pub invariant-scans : goal.invariant-scans
invariant-scans l = l.kinds.items ++ map kind_seen (drop l.at l.scans) ≡ map kind_seen l.scans

abbrev pub decreases-scans : goal.decreases-scans
decreases-scans l = length l.scans - l.at
