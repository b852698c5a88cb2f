use Rattle.std.proofs.Common.{◌≡◌, ◌≤◌, map, take, length, vec_len, vec_capacity}
use Rattle.bw_page.specs.Journal.{Ran}
use Rattle.bw_page.proofs.leaves.Leaves.apply_all_of.Given as goal

abbrev pub invariant-loop-item : goal.invariant-loop-item
invariant-loop-item g l = record {
  ran : Ran l.initial.self (map g.T.HasRecord.record_of (take l.item-index l.items)) l.self l.journal.items;
  count : vec_len l.journal ≡ l.item-index;
  capacity : length l.items ≤ vec_capacity l.journal;
}
