use Rattle.std.proofs.Common.{refl}
use Rattle.bw_core.specs.Views.{kept_by}
use Rattle.bw_home.proofs.Cuts.{kept_entries, stays_as}
use Rattle.bw_home.proofs.home.Home.flush.Goals as goal

pub returns-clause-stays : goal.returns-clause-stays
returns-clause-stays g c =
    let its = c.flush.ensures in
    stays_as _ _ _ c.requires.sound its.goes.sound its.goes.follows.continues refl
    (kept_entries _ (kept_by c.args.self.now.store (λ z. (goal.Segment-dyn g z).holding z.1))
    (kept_by c.flush.new.self (λ z. (goal.Segment-dyn g z).holding z.1)) its.steps)
