use Rattle.std.proofs.Common.{refl, ◌∙◌, arith}
use Rattle.std.proofs.lemmas.Result.{err_from_is_err_and}
use Rattle.bw_core.specs.Views.{kept_by}
use Rattle.bw_core.proofs.FollowMore.{no_groups, refused_turned}
use Rattle.bw_core.proofs.Machines.{may_leave, refused_stops, turn_takes}
use Rattle.bw_core.proofs.RoundsMore.{fair_of, none_yet}
use Rattle.bw_core.proofs.store.Core.turn.Goals as goal

pub rounds-init : goal.rounds-init
rounds-init g c =
    let lanes = c.args.self.now.intake.lanes.items in
    let s = kept_by c.args.self.now (λ z. (goal.Segment-dyn g z).holding z.1) in
    record {
      sound = c.requires.sound;
      turned = no_groups _ _ refl;
      within = omega arith;
      few = omega arith;
      noted = refl;
      fair = fair_of lanes s lanes s (none_yet lanes s);
      rounds = λ less. (0, none_yet lanes s);
    }

pub rounds-preserved : goal.rounds-preserved
rounds-preserved g c = record {
  sound = c.in_ok-more.ensures.quiet.sound;
  turned = c.in_ok-more.ensures.turned _ c.rounds.invariant.turned;
  within = c.in_ok-more.ensures.within.1;
  few = c.in_ok-more.ensures.few;
  noted = c.in_ok-more.ensures.quiet.noted ∙ c.rounds.invariant.noted;
  fair = (let at = c.rounds.invariant.rounds c.rounds-test.true in (c.in_ok-more.ensures.rounds _ _ at.0 at.1).0);
  rounds = λ less. (let at = c.rounds.invariant.rounds c.rounds-test.true in (_, (c.in_ok-more.ensures.rounds _ _ at.0 at.1).1 less));
}

pub returns-then-more-taken-clause-turned : goal.returns-then-more-taken-clause-turned
returns-then-more-taken-clause-turned g c = (c.in_ok-more.ensures.turned _ c.rounds.invariant.turned).0.turned

pub returns-then-more-taken-clause-took : goal.returns-then-more-taken-clause-took
returns-then-more-taken-clause-took g c = (c.in_ok-more.ensures.turned _ c.rounds.invariant.turned).0

pub returns-then-more-taken-clause-within : goal.returns-then-more-taken-clause-within
returns-then-more-taken-clause-within g c =
    (let same = (c.in_ok-more.ensures.turned _ c.rounds.invariant.turned).1 in let le = c.in_ok-more.ensures.within.1 in omega arith)

pub returns-then-more-taken-clause-dry : goal.returns-then-more-taken-clause-dry
returns-then-more-taken-clause-dry g c = λ below. (
    let same = (c.in_ok-more.ensures.turned _ c.rounds.invariant.turned).1 in
    let none = c.if-more-taken.true in
    c.in_ok-more.ensures.dry none (omega arith))

pub returns-clause-turned : goal.returns-clause-turned
returns-clause-turned g c = c.rounds.invariant.turned.0.turned

pub returns-clause-took : goal.returns-clause-took
returns-clause-took g c = c.rounds.invariant.turned.0

pub returns-clause-within : goal.returns-clause-within
returns-clause-within g c = (let same = c.rounds.invariant.turned.1 in let le = c.rounds.invariant.within in omega arith)

pub returns-clause-dry : goal.returns-clause-dry
returns-clause-dry g c = λ below. (let same = c.rounds.invariant.turned.1 in let end = c.rounds-test.false in absurd (omega arith))

pub returns-in_err-more-clause-turned : goal.returns-in_err-more-clause-turned
returns-in_err-more-clause-turned g c =
    let p = err_from_is_err_and c.from_residual.result c.from_residual.ensures.1 in
    rw (p.1, p.2) (refused_turned _ _ _ _ _ (c.in_err-more.ensures.turned _ c.rounds.invariant.turned).0)

pub returns-in_err-more-clause-refused : goal.returns-in_err-more-clause-refused
returns-in_err-more-clause-refused g c =
    let p = err_from_is_err_and c.from_residual.result c.from_residual.ensures.1 in
    rw (p.1, p.2) (c.in_err-more.ensures.turned _ c.rounds.invariant.turned).0

pub returns-in_err-more-clause-tried : goal.returns-in_err-more-clause-tried
returns-in_err-more-clause-tried g c =
    let p = err_from_is_err_and c.from_residual.result c.from_residual.ensures.1 in
    rw p.1 (c.in_err-more.ensures.turned _ c.rounds.invariant.turned).1

pub returns-then-more-taken-clause-steps : goal.returns-then-more-taken-clause-steps
returns-then-more-taken-clause-steps g c = turn_takes _ _ _ c.requires.sound (c.in_ok-more.ensures.turned _ c.rounds.invariant.turned).0

pub returns-then-more-taken-clause-may_leave : goal.returns-then-more-taken-clause-may_leave
returns-then-more-taken-clause-may_leave g c = may_leave _ c.round_more.ensures.quiet.sound

pub returns-clause-steps : goal.returns-clause-steps
returns-clause-steps g c = turn_takes _ _ _ c.requires.sound c.rounds.invariant.turned.0

pub returns-clause-may_leave : goal.returns-clause-may_leave
returns-clause-may_leave g c = may_leave _ c.rounds.invariant.sound

pub returns-in_err-more-clause-steps : goal.returns-in_err-more-clause-steps
returns-in_err-more-clause-steps g c =
    let p = err_from_is_err_and c.from_residual.result c.from_residual.ensures.1 in
    rw p.1 (refused_stops _ _ _ _ _ _ c.requires.sound (c.in_err-more.ensures.turned _ c.rounds.invariant.turned).0)

pub returns-in_err-more-clause-may_leave : goal.returns-in_err-more-clause-may_leave
returns-in_err-more-clause-may_leave g c = may_leave _ c.round_more.ensures.quiet.sound

pub returns-then-more-taken-clause-fair : goal.returns-then-more-taken-clause-fair
returns-then-more-taken-clause-fair g c = (let at = c.rounds.invariant.rounds c.rounds-test.true in (c.in_ok-more.ensures.rounds _ _ at.0 at.1).0)

pub returns-clause-fair : goal.returns-clause-fair
returns-clause-fair g c = c.rounds.invariant.fair

pub returns-in_err-more-clause-fair : goal.returns-in_err-more-clause-fair
returns-in_err-more-clause-fair g c =
    let p = err_from_is_err_and c.from_residual.result c.from_residual.ensures.1 in
    let at = c.rounds.invariant.rounds c.rounds-test.true in
    (c.in_err-more.ensures.rounds _ _ at.0 at.1).0
