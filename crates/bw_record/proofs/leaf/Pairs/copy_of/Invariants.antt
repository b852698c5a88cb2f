use Rattle.std.proofs.Common.{◌≡◌, take}
use Rattle.bw_record.proofs.leaf.Pairs.copy_of.Given as goal

abbrev pub invariant-loop-pair : goal.invariant-loop-pair
invariant-loop-pair l = l.items.items ≡ take l.pair-index l.pairs
