use Rattle.std.proofs.Common.{◌≡◌, ◌≤◌, ◌+◌, ◌++◌, length, vec_len}
use Rattle.std.specs.Vec.{vec_capacity}
use Rattle.bw_lives.proofs.lives.add_all.Given as goal

abbrev pub invariant-loop-one : goal.invariant-loop-one
invariant-loop-one g l = record {
  able : (goal.iterator-loop-one g).can_next l.one-iterator;
  ends : (goal.iterator-loop-one g).is_finite l.one-iterator;
  items : l.boxes.items ++ l.one-iterator.rest.items ≡ l.initial.boxes.items ++ l.fn.more.items;
  len : vec_len l.boxes + length l.one-iterator.rest.items ≡ vec_len l.initial.boxes + length l.fn.more.items;
  room : vec_len l.boxes + length l.one-iterator.rest.items ≤ vec_capacity l.boxes;
  capacity : vec_capacity l.boxes ≡ vec_capacity l.initial.boxes;
}
