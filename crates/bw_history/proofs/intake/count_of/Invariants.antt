use Rattle.std.proofs.Common.{◌≡◌, length, take}
use Rattle.bw_history.specs.History.{of_writer}
use Rattle.bw_history.proofs.intake.count_of.Given as goal

abbrev pub invariant-loop-entry : goal.invariant-loop-entry
invariant-loop-entry l = record {
  so_far : l.count ≡ length (of_writer l.writer (take l.entry-index l.entries));
}
