use Rattle.std.proofs.Common.{◌≡◌, ◌≤◌, ◌+◌, ◌-◌, length, drop}
use Rattle.bw_care.specs.Surveying.{parts_seen}
use Rattle.bw_care.proofs.boxes.parts_of.Given as goal

abbrev pub invariant-scans : goal.invariant-scans
invariant-scans l = (l.count ≤ l.at) × (l.count + parts_seen (drop l.at l.scans) ≡ parts_seen l.scans)

abbrev pub decreases-scans : goal.decreases-scans
decreases-scans l = length l.scans - l.at
