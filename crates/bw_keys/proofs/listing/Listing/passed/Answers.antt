use Rattle.std.proofs.Common.{◌∙◌, arith}
use Rattle.bw_page.specs.Leaves.{union}
use Rattle.bw_keys.proofs.Written.{passed_all, passed_some}
use Rattle.bw_keys.proofs.listing.Listing.passed.Goals as goal

pub returns-then-self-clause-passed : goal.returns-then-self-clause-passed
returns-then-self-clause-passed g c =
    passed_all c.args.self.now.span.now (union c.args.pages.now.leaves.leaves) c.args.self.now.order.last c.pairs_of-all.ensures.fits c.if-self.true

pub returns-clause-passed : goal.returns-clause-passed
returns-clause-passed g c =
    let last = c.args.self.now.order.last in
    c.saturating_sub.ensures
    ∙ passed_some c.args.self.now.span.now c.args.pages.now.leaves.leaves c.args.numbers.now last c.in_ok-count.count
    c.pairs_of-all.ensures.fits c.requires.whole c.in_ok-count.ensures.count (omega arith)
