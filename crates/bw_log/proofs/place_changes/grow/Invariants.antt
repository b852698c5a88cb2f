use Rattle.std.proofs.Common.{◌≡◌, ◌+◌, ◌++◌, replicate, vec_len}
use Rattle.std.specs.Vec.{vec_capacity}
use Rattle.bw_log.specs.PageTable.{empty_line}
use Rattle.bw_log.proofs.place_changes.grow.Given as goal

abbrev pub invariant-loop-i : goal.invariant-loop-i
invariant-loop-i l = record {
  items : l.pages.items ≡ l.initial.pages.items ++ replicate l._i empty_line;
  len : vec_len l.pages ≡ vec_len l.initial.pages + l._i;
  capacity : vec_capacity l.pages ≡ vec_capacity l.initial.pages;
}
