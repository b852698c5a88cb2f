use Rattle.std.proofs.Common.{◌≤◌, refl, ◌∙◌, arith}
use Rattle.bw_history.specs.Lanes.{Dries}
use Rattle.bw_history.proofs.Laned.{know_after}
use Rattle.bw_core.proofs.Planned.{take_some}
use Rattle.bw_core.proofs.RoundsMore.{look_then, looked_takes, never_none}
use Rattle.bw_core.proofs.store.Core.take_looked.Goals as goal

pub returns-in-Some-clause-leaves : goal.returns-in-Some-clause-leaves
returns-in-Some-clause-leaves g c = take_some c.args.lane 1 _ _ _ _ c.look.ensures.same c.in_ok-take_item.ensures.leaves refl

pub returns-in-Some-clause-takes : goal.returns-in-Some-clause-takes
returns-in-Some-clause-takes g c =
    let t = c.in_ok-take_item.ensures.takes in
    record {
      sound = t.sound;
      count = t.count ∙ c.look.ensures.count;
      dry = tt;
      few = omega arith;
      knows = look_then _ _ _ _ c.look.ensures.knows (know_after _ _ _ t.known);
      noted = t.noted ∙ c.look.ensures.noted;
    }

pub returns-clause-takes : goal.returns-clause-takes
returns-clause-takes g c =
    let t = c.take_several.ensures.takes in
    record {
      sound = t.sound;
      count = t.count ∙ c.look.ensures.count;
      dry = never_none (Dries c.args.lane c.args.self.now.intake.lanes.items c.take_several.new.self.intake.lanes.items) (λ n. n ≤ 4)
          c.take_several.result c.take_several.ensures.some;
      few = t.few;
      knows = looked_takes c.args.lane c.args.self.now.intake.lanes.items c.look.new.self.intake.lanes.items
          c.take_several.new.self.intake.lanes.items c.take_several.result c.look.ensures.knows t.knows;
      noted = t.noted ∙ c.look.ensures.noted;
    }
