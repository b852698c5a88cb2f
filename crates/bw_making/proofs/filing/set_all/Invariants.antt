use Rattle.std.proofs.Common.{◌≡◌, ◌≤◌, ◌+◌, ◌-◌, length, drop}
use Rattle.std.specs.Prelude.{vec_len}
use Rattle.std.specs.Vec.{vec_capacity}
use Rattle.std.specs.List.{fold}
use Rattle.bw_making.specs.Drafting.{AreIn, set_row}
use Rattle.bw_making.proofs.filing.set_all.Given as goal

abbrev pub invariant-rows : goal.invariant-rows
invariant-rows l = record {
  rest : fold set_row l.newest.items (drop l.at l.rows) ≡ fold set_row l.initial.newest.items l.rows;
  inside : AreIn (length l.newest.items) (drop l.at l.rows);
  room : vec_len l.newest + (length l.rows - l.at) ≤ vec_capacity l.newest;
}
