use Rattle.std.proofs.Common.{◌≡◌, ◌-◌, ◌++◌}
use Rattle.bw_tables.specs.Writing.{chunk_records}
use Rattle.bw_tables.proofs.groups.add_chunks.Given as goal

abbrev pub invariant-loop-i : goal.invariant-loop-i
invariant-loop-i l = l.group ≡ l.initial.group ++ chunk_records l.number.bytes l.value l.initial.i (l.i - l.initial.i)
