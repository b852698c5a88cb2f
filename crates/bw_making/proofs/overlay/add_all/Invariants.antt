use Rattle.std.proofs.Common.{◌≡◌, ◌++◌, take}
use Rattle.bw_making.proofs.overlay.add_all.Given as goal

abbrev pub invariant-loop-item : goal.invariant-loop-item
invariant-loop-item l = l.records.items ≡ l.initial.records.items ++ take l.item-index l.ops
