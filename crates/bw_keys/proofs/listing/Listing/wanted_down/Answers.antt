use Rattle.std.proofs.Common.{refl}
use Rattle.bw_page.specs.Leaves.{union}
use Rattle.bw_keys.specs.Stretches.{stretch, stretch_on}
use Rattle.bw_keys.proofs.Written.{wrote_down}
use Rattle.bw_keys.proofs.listing.Listing.wanted_down.Goals as goal

pub returns-clause-written : goal.returns-clause-written
returns-clause-written g c =
    let leaves = c.args.pages.now.leaves.leaves in
    let span = c.args.self.now.span.now in
    wrote_down c.args.self.now.order _ _ _ _ (stretch_on span leaves c.args.numbers.now) (stretch span (union leaves))
    c.in_ok-all_down.ensures.written c.requires.whole c.requires.way refl c.min-left.ensures
