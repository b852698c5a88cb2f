use Rattle.std.proofs.Common.{◌≡◌, ◌≤◌, ◌+◌, ◌++◌, length, vec_len}
use Rattle.std.specs.Vec.{vec_capacity}
use Rattle.bw_history.proofs.history.append.Given as goal

abbrev pub invariant-loop-entry : goal.invariant-loop-entry
invariant-loop-entry l = record {
  able : (goal.iterator-loop-entry).can_next l.entry-iterator;
  ends : (goal.iterator-loop-entry).is_finite l.entry-iterator;
  items : l.kept.items ++ l.entry-iterator.rest.items ≡ l.initial.kept.items ++ l.fn.entries.items;
  len : vec_len l.kept + length l.entry-iterator.rest.items ≡ vec_len l.initial.kept + length l.fn.entries.items;
  room : vec_len l.kept + length l.entry-iterator.rest.items ≤ vec_capacity l.kept;
}
