use Rattle.std.proofs.Common.{sym, subst}
use Rattle.bw_page.specs.Ahead.{HasCome}
use Rattle.bw_page.specs.Leaves.{union}
use Rattle.bw_page.specs.Shown.{Shown}
use Rattle.bw_page.proofs.leaves.Leaves.note_gap.Goals as goal

pub invariant_of-self : goal.invariant_of-self
invariant_of-self c =
    let come = subst (λ (f : Shown). HasCome (union f.leaves) c.args.from.now c.args.to.now) (sym c.self.view_is) c.requires in
    let was = c.self.invariant in
    record {
      limit = was.limit;
      count = was.count;
      lawful = was.lawful;
      index = was.index;
      gap = c.grow.ensures (union c.self.inside.leaves.items) was.gap come;
    }
