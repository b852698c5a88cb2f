use Rattle.std.proofs.Common.{◌≡◌, sym, subst}
use Rattle.bw_page.specs.Leaves.{union}
use Rattle.bw_keys.specs.Stretches.{stretch, stretch_on}
use Rattle.bw_keys.proofs.Written.{wrote_up}
use Rattle.bw_keys.proofs.listing.Listing.wanted_up.Goals as goal

pub returns-clause-written : goal.returns-clause-written
returns-clause-written g c =
    let leaves = c.args.pages.now.leaves.leaves in
    let span = c.args.self.now.span.now in
    let same = c.in_ok-passed.ensures.same in
    let whole = subst (λ ls. stretch_on span ls c.args.numbers.now ≡ stretch span (union leaves)) (sym same) c.requires.whole in
    wrote_up c.args.self.now.order _ _ _ _ (stretch_on span _ c.args.numbers.now) (stretch span (union leaves))
    c.in_ok-all_up.ensures.written whole c.requires.way c.in_ok-passed.ensures.passed c.min-left.ensures
