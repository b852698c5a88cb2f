use Rattle.std.proofs.Common.{◌≡◌, take}
use Rattle.bw_leaf.proofs.room.same_pairs.Given as goal

abbrev pub invariant-loop-pair : goal.invariant-loop-pair
invariant-loop-pair l = l.copy.items ≡ take l.pair-index l.pairs
