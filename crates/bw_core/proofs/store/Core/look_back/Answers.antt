use Rattle.bw_walks.proofs.Backwards.{base_at}
use Rattle.bw_core.proofs.store.Core.look_back.Goals as goal

pub found_on-requires-2-clause-ascends : goal.found_on-requires-2-clause-ascends
found_on-requires-2-clause-ascends g c =
    (base_at c.args.self.now.pages.leaves.m c.args.page c.args.self.now.pages.leaves.leaves c.in_ok-leaf.leaf c.count.ensures.lawful c.in_ok-leaf.ensures.leaf).ascends

pub found_on-requires-2-clause-low : goal.found_on-requires-2-clause-low
found_on-requires-2-clause-low g c =
    (base_at c.args.self.now.pages.leaves.m c.args.page c.args.self.now.pages.leaves.leaves c.in_ok-leaf.leaf c.count.ensures.lawful c.in_ok-leaf.ensures.leaf).low
