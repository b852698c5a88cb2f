use Rattle.std.proofs.Common.{◌≡◌, length}
use Rattle.std.specs.List.{filter}
use Rattle.bw_record.specs.Keys.{is_below}
use Rattle.bw_leaf.proofs.tree.split_tree.Given as goal

abbrev pub invariant-down : goal.invariant-down
invariant-down l = filter (λ p. is_below p.0 l.separator) l.tree.entries ≡ filter (λ p. is_below p.0 l.separator) l.initial.tree.entries

abbrev pub decreases-down : goal.decreases-down
decreases-down l = length l.tree.entries
