use Rattle.std.proofs.Common.{subst}
use Rattle.bw_page.specs.Ahead.{HasCome}
use Rattle.bw_page.specs.Leaves.{union}
use Rattle.bw_page.specs.Shown.{Shown}
use Rattle.bw_page.proofs.leaves.Leaves.past_gap.Goals as goal

pub returns : goal.returns
returns c =
    subst (λ (f : Shown). HasCome (union f.leaves) c.args.key.now c.past.result) c.self.view_is
    (c.past.ensures (union c.self.inside.leaves.items) c.self.invariant.gap)
