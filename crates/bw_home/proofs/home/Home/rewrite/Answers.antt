use Rattle.std.proofs.Common.{refl, ◌∙◌, sym}
use Rattle.bw_core.specs.Views.{kept_by}
use Rattle.bw_home.proofs.Cuts.{cleaned_entries, stays_as}
use Rattle.bw_home.proofs.home.Home.rewrite.Goals as goal

pub returns-clause-keeps : goal.returns-clause-keeps
returns-clause-keeps g c =
    let its = c.rewrite.ensures in
    record {
      ready = record { sound = its.goes.sound; feeds = c.requires.feeds ∙ sym its.goes.follows.continues.rings };
      feeds = refl;
      entries = cleaned_entries _ (kept_by c.args.self.now.store (λ z. (goal.Segment-dyn g z).holding z.1))
          (kept_by c.rewrite.new.self (λ z. (goal.Segment-dyn g z).holding z.1)) its.runs.steps;
      follows = its.goes.follows;
      boxes = its.goes.boxes;
    }

pub returns-clause-stays : goal.returns-clause-stays
returns-clause-stays g c =
    let its = c.rewrite.ensures in
    stays_as _ _ _ c.requires.sound its.goes.sound its.goes.follows.continues refl
    (cleaned_entries _ (kept_by c.args.self.now.store (λ z. (goal.Segment-dyn g z).holding z.1))
    (kept_by c.rewrite.new.self (λ z. (goal.Segment-dyn g z).holding z.1)) its.runs.steps)
