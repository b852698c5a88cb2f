use Rattle.std.proofs.Common.{◌≡◌, ◌≤◌, ◌+◌, ◌-◌, ◌++◌, replicate, vec_len}
use Rattle.std.specs.Vec.{vec_capacity}
use Rattle.bw_history.proofs.cuts.push_many.Given as goal

abbrev pub invariant-cuts : goal.invariant-cuts
invariant-cuts l = record {
  items : l.cuts.items ≡ l.initial.cuts.items ++ replicate l.counter l.end;
  room : vec_len l.cuts + (l.count - l.counter) ≤ vec_capacity l.cuts;
}
