use Rattle.std.proofs.Common.{◌≡◌, ◌≤◌, ◌+◌, map, take, length, vec_len, vec_capacity}
use Rattle.bw_page.specs.Batch.{steps_of}
use Rattle.bw_page.specs.Journal.{Ran}
use Rattle.bw_page.proofs.leaves.Leaves.walk.Given as goal

abbrev pub invariant-loop-item : goal.invariant-loop-item
invariant-loop-item g l = record {
  ran : Ran l.initial.self (map g.T.HasRecord.record_of (take l.item-index l.items)) l.self l.journal.items;
  steps : l.steps.items ≡ steps_of l.initial.self (map g.T.HasRecord.record_of (take l.item-index l.items));
  count : vec_len l.journal ≡ l.item-index;
  told : vec_len l.steps ≡ l.item-index;
  capacity : length l.items ≤ vec_capacity l.journal;
  room : length l.items + 1 ≤ vec_capacity l.steps;
}
