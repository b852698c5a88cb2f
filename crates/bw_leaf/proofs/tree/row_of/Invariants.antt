use Rattle.std.proofs.Common.{◌≡◌, ◌++◌, length}
use Rattle.bw_leaf.proofs.tree.row_of.Given as goal

abbrev pub invariant-next : goal.invariant-next
invariant-next l = l.row.items ++ l.tree.entries ≡ l.initial.tree.entries

abbrev pub decreases-next : goal.decreases-next
decreases-next l = length l.tree.entries
