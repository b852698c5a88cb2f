use Rattle.bw_log.specs.Adopting.{Numbering}
use Rattle.bw_log.proofs.adopt.number_lines.Given as goal

abbrev pub invariant-loop-i : goal.invariant-loop-i
invariant-loop-i l = Numbering l.number l.initial.lines.items l.i l.lines.items l.next
