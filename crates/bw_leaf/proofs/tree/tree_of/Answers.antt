use Rattle.std.proofs.Common.{◌∙◌}
use Rattle.std.specs.BTreeMap.{insert_entry}
use Rattle.bw_leaf.specs.Changed.{order}
use Rattle.bw_leaf.proofs.Trees.{least_inserted}
use Rattle.bw_leaf.proofs.tree.tree_of.Goals as goal

pub down-preserved : goal.down-preserved
down-preserved c =
    least_inserted c.args.pairs.items c.down.pairs.items c.pop.new.self.items c.down.tree.entries c.insert.new.self.entries c.in-Some.pair.0 c.in-Some.pair.1
    c.requires c.down.invariant c.in-Some.ensures.items (c.in_ok-insert.ensures.entries
    ∙ (λ i. insert_entry order c.down.tree.entries (c.to_key.ensures i) (c.to_value.ensures i)))
