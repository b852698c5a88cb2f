use Rattle.std.proofs.Common.{refl, rules}
use Rattle.bw_core.specs.Following as follow
use Rattle.bw_core.specs.Views as core
use Rattle.bw_terms.specs.declared.fault.TurnFault.{TurnFault}
use Rattle.bw_store.specs.Kept.{with_versions}
use Rattle.bw_store.specs.Views.{kept_by}
use Rattle.bw_store.proofs.Forwards.{err_beside, ok_beside, turned_beside, turned_continues}
use Rattle.bw_store.proofs.Later.{beside_sound}
use Rattle.bw_store.proofs.Machines.{turn_steps}
use Rattle.bw_store.proofs.store.Store.turn.Goals as goal

pub returns-clause-quiet : goal.returns-clause-quiet
returns-clause-quiet g c = record {
  sound = (
      beside_sound (kept_by c.args.self.now (λ z. (goal.Segment-dyn g z).holding z.1))
      (with_versions (core.kept_by c.turn.new.self (λ z. (goal.Segment-dyn g z).holding z.1)) c.args.self.now.versions)
      c.requires.sound c.turn.ensures.quiet.sound (turned_continues _ _ c.turn.result c.turn.ensures.turned) refl);
  noted = search rules;
}

pub returns-clause-turned : goal.returns-clause-turned
returns-clause-turned g c = turned_beside _ _ refl c.turn.result c.turn.ensures.turned

pub returns-clause-took : goal.returns-clause-took
returns-clause-took g c = ok_beside _ _ refl (λ n a b. follow.TookInTurn n a b) c.turn.result c.turn.ensures.took

pub returns-clause-refused : goal.returns-clause-refused
returns-clause-refused g c =
    err_beside _ _ refl (λ (f : TurnFault) a b. follow.RefusedAfter f.taken a (core.lanes_of c.turn.new.self) (core.away_in c.turn.new.self)
    f.cause b) c.turn.result c.turn.ensures.refused

pub returns-clause-steps : goal.returns-clause-steps
returns-clause-steps g c =
    turn_steps (kept_by c.args.self.now (λ z. (goal.Segment-dyn g z).holding z.1)) (with_versions (core.kept_by c.turn.new.self (λ z. (goal.Segment-dyn g z).holding z.1)) c.args.self.now.versions) _ c.turn.result c.turn.ensures.steps refl

pub returns-clause-may_leave : goal.returns-clause-may_leave
returns-clause-may_leave g c = c.turn.ensures.may_leave

pub returns-clause-fair : goal.returns-clause-fair
returns-clause-fair g c = c.turn.ensures.fair
