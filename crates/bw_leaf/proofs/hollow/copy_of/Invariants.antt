use Rattle.std.proofs.Common.{◌≡◌, map, take}
use Rattle.bw_leaf.specs.Hollow.{pair_in}
use Rattle.bw_leaf.proofs.hollow.copy_of.Given as goal

abbrev pub invariant-loop-item : goal.invariant-loop-item
invariant-loop-item l = l.copy ≡ map (pair_in l.keys.items) (take l.item-index l.items)
