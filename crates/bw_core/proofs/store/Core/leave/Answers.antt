use Rattle.std.proofs.Common.{sym, ◌∙◌}
use Rattle.bw_core.proofs.EvictedPages.{evicted_more}
use Rattle.bw_core.proofs.store.Core.leave.Goals as goal

pub invariant_of-self : goal.invariant_of-self
invariant_of-self g c =
    let was = c.args.self.now.pages in
    let logged = evicted_more was.leaves c.evict_page.new.self c.args.page was.making.blocks c.evict_page.ensures.evicted
    was.logged c.requires.logged in
    (logged, tt)
