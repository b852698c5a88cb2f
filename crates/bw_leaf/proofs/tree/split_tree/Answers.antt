use Rattle.std.proofs.Common.{◌∙◌}
use Rattle.bw_leaf.proofs.Trees.{popped}
use Rattle.bw_leaf.proofs.tree.split_tree.Goals as goal

pub down-preserved : goal.down-preserved
down-preserved c =
    popped c.args.separator.now c.down.tree.entries c.pop_last.new.self.entries c.pop_last.result (c.ends_behind.ensures.some c.down-test.true)
    c.pop_last.ensures.variant c.pop_last.ensures.removal (λ front key value is. c.ends_behind.ensures.behind front key value c.down-test.true is)
    ∙ c.down.invariant
