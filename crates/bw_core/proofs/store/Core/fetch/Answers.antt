use Rattle.bw_core.proofs.EvictedPages.{evicted_less}
use Rattle.bw_core.proofs.Fetched.{same_here, still_here}
use Rattle.bw_core.proofs.store.Core.fetch.Goals as goal

pub invariant_of-self : goal.invariant_of-self
invariant_of-self g c =
    let read = c.read_evicted.new.self in
    let logged = evicted_less read.pages.leaves c.bring_back.new.self c.find-page.result read.pages.making.blocks c.bring_back.ensures.evicted
    read.pages.logged in
    ((logged, tt), (read.whole, (read.forgotten, (read.began, tt))))

pub returns-clause-others : goal.returns-clause-others
returns-clause-others g c = λ other here.
    still_here c.read_evicted.new.self.pages.leaves c.bring_back.new.self c.find-page.result other c.bring_back.ensures.leaves c.bring_back.ensures.evicted
    (same_here _ _ other c.read_evicted.ensures.looks.pages here)
