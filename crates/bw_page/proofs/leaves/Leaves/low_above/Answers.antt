use Rattle.std.proofs.Common.{IfSome, subst}
use Rattle.bw_page.specs.Ahead.{IsNextLow, HasNoLowAbove}
use Rattle.bw_lows.specs.LowHeads.{page_of_low, IsLeastLow}
use Rattle.bw_page.specs.Shown.{Shown}
use Rattle.bw_page.proofs.Ahead.{if_some_map, next_low, no_low_above}
use Rattle.bw_page.proofs.leaves.Leaves.low_above.Goals as goal

pub returns-clause-some : goal.returns-clause-some
returns-clause-some c =
    subst (λ (f : Shown). IfSome c.above.result (λ low. IsNextLow f.leaves c.args.key.now low)) c.self.view_is
    (if_some_map (IsLeastLow (page_of_low c.self.inside.index) c.args.key.now) (IsNextLow c.self.inside.leaves.items c.args.key.now) c.above.result
    (next_low c.self.inside.m c.args.key.now c.self.inside.leaves.items c.self.invariant.lawful (page_of_low c.self.inside.index) c.self.invariant.index)
    c.above.ensures.some)

pub returns-clause-none : goal.returns-clause-none
returns-clause-none c is =
    subst (λ (f : Shown). HasNoLowAbove f.leaves c.args.key.now) c.self.view_is
    (no_low_above c.self.inside.m c.args.key.now c.self.inside.leaves.items c.self.invariant.lawful (page_of_low c.self.inside.index) c.self.invariant.index
    (c.above.ensures.none is))
