use Rattle.std.proofs.Common.{◌≡◌, ◌++◌, length}
use Rattle.bw_leaf.proofs.tree.tree_of.Given as goal

abbrev pub invariant-down : goal.invariant-down
invariant-down l = l.pairs.items ++ l.tree.entries ≡ l.initial.pairs.items

abbrev pub decreases-down : goal.decreases-down
decreases-down l = length l.pairs.items
