use Rattle.std.proofs.Common.{◌≡◌, ◌≤◌, ◌+◌, ◌-◌, ◌++◌, take, length, vec_len, vec_capacity}
use Rattle.bw_walks.proofs.shared.push_shared.Given as goal

abbrev pub invariant-loop-pair : goal.invariant-loop-pair
invariant-loop-pair l = record {
  added : l.found.items ≡ l.initial.found.items ++ take l.pair-index l.pairs;
  room : vec_len l.found + (length l.pairs - l.pair-index) ≤ vec_capacity l.found;
}
