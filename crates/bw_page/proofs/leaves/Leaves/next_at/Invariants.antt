use Rattle.bw_page.specs.Ahead.{HasCome, ahead}
use Rattle.bw_page.specs.Leaves.{union}
use Rattle.bw_page.proofs.leaves.Leaves.next_at.Given as goal

abbrev pub invariant-pages : goal.invariant-pages
invariant-pages l = HasCome (union l.self.leaves) l.key l.from

abbrev pub decreases-pages : goal.decreases-pages
decreases-pages l = ahead l.from l.self.leaves
