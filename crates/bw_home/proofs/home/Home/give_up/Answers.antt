use Rattle.std.proofs.Common.{refl, ◌∙◌, sym}
use Rattle.bw_core.specs.Views.{kept_by}
use Rattle.bw_core.proofs.FollowMore.{follows_as}
use Rattle.bw_home.proofs.Cuts.{cleaned_entries, stays_as, stays_same}
use Rattle.bw_home.proofs.home.Home.give_up.Goals as goal

pub returns-in_err-empty-clause-follows : goal.returns-in_err-empty-clause-follows
returns-in_err-empty-clause-follows g c = (follows_as _ _ refl).follows.continues

pub returns-clause-ready : goal.returns-clause-ready
returns-clause-ready g c = record { sound = c.clean.ensures.sound; feeds = c.requires.feeds ∙ sym c.clean.ensures.follows.rings }

pub returns-in_err-empty-clause-stays : goal.returns-in_err-empty-clause-stays
returns-in_err-empty-clause-stays g c = stays_same _ _ _ c.requires.sound refl refl

pub returns-in_err-cleaned-clause-stays : goal.returns-in_err-cleaned-clause-stays
returns-in_err-cleaned-clause-stays g c =
    let its = c.clean.ensures in
    stays_as _ _ _ c.requires.sound its.sound its.follows refl (cleaned_entries _ (kept_by c.args.self.now.store (λ z. (goal.Segment-dyn g z).holding z.1))
    (kept_by c.clean.new.self (λ z. (goal.Segment-dyn g z).holding z.1)) its.runs.steps)

pub returns-clause-stays : goal.returns-clause-stays
returns-clause-stays g c =
    let its = c.clean.ensures in
    stays_as _ _ _ c.requires.sound its.sound its.follows refl (cleaned_entries _ (kept_by c.args.self.now.store (λ z. (goal.Segment-dyn g z).holding z.1))
    (kept_by c.clean.new.self (λ z. (goal.Segment-dyn g z).holding z.1)) its.runs.steps)
