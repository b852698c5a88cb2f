use Rattle.std.proofs.Common.{◌≡◌, ◌≤◌, ◌+◌, ◌++◌, reverse, vec_len, vec_capacity}
use Rattle.bw_record.proofs.leaf.move_last.Given as goal

abbrev pub invariant-loop-from : goal.invariant-loop-from
invariant-loop-from l = record {
  within : l.at ≤ vec_len l.from;
  all : l.from.items ++ reverse l.to.items ≡ l.initial.from.items;
  count : vec_len l.to + vec_len l.from ≡ vec_len l.initial.from;
  capacity : vec_capacity l.to ≡ vec_capacity l.initial.to;
}

abbrev pub decreases-loop-from : goal.decreases-loop-from
decreases-loop-from l = vec_len l.from
