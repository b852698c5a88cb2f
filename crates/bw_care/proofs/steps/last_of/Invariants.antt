use Rattle.std.proofs.Common.{◌≡◌, ◌-◌, length, drop}
use Rattle.bw_care.specs.Planned.{last_line}
use Rattle.bw_care.proofs.steps.last_of.Given as goal

abbrev pub invariant-lines : goal.invariant-lines
invariant-lines l = last_line l.last (drop l.at l.lines) ≡ last_line 0 l.lines

abbrev pub decreases-lines : goal.decreases-lines
decreases-lines l = length l.lines - l.at
