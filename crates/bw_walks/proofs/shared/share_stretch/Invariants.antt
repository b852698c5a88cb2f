use Rattle.bw_page.specs.Ahead.{HasGone, ahead}
use Rattle.bw_page.specs.Leaves.{union}
use Rattle.bw_walks.proofs.shared.share_stretch.Given as goal

abbrev pub invariant-pages : goal.invariant-pages
invariant-pages l = HasGone (union l.leaves.leaves) l.key l.from l.most l.found.items

abbrev pub decreases-pages : goal.decreases-pages
decreases-pages l = ahead l.from l.leaves.leaves
