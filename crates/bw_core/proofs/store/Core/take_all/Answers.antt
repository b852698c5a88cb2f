use Rattle.std.proofs.Common.{ap, sym, subst, ◌∙◌}
use Rattle.std.proofs.lemmas.Result.{err_from_is_err_and}
use Rattle.bw_core.specs.Following.{groups_since}
use Rattle.bw_core.specs.Kept.{IsSound, Kept}
use Rattle.bw_core.specs.Machine.{machine_of}
use Rattle.bw_core.specs.Views.{kept_by}
use Rattle.bw_history.specs.Machine.{TakesAndStops, TakesMany}
use Rattle.bw_core.proofs.FollowMore.{refused_boxes, refused_follows}
use Rattle.bw_core.proofs.HeardMore.{begin_with}
use Rattle.bw_core.proofs.Machines.{may_leave, refused_stops, turn_takes}
use Rattle.bw_history.proofs.Laned.{exact, writers_of}
use Rattle.bw_core.proofs.store.Core.take_all.Goals as goal

pub returns-in_err-take_known-clause-refused : goal.returns-in_err-take_known-clause-refused
returns-in_err-take_known-clause-refused g c =
    let p = err_from_is_err_and c.from_residual.result c.from_residual.ensures.1 in
    rw (p.1, p.2, sym c.look_beside.ensures.same) c.in_err-take_known.ensures.took

pub returns-in_err-take_known-clause-steps : goal.returns-in_err-take_known-clause-steps
returns-in_err-take_known-clause-steps g c =
    let p = err_from_is_err_and c.from_residual.result c.from_residual.ensures.1 in
    rw p.1 (subst (λ (s : Kept). TakesAndStops (machine_of s) (machine_of (kept_by c.take_known.new.self (λ z. (goal.Segment-dyn g z).holding z.1)))) c.look_beside.ensures.same
    (refused_stops _ _ _ _ _ _ (subst IsSound (sym c.look_beside.ensures.same) c.requires.sound) c.in_err-take_known.ensures.took.1))

pub returns-in_err-take_known-clause-sequel : goal.returns-in_err-take_known-clause-sequel
returns-in_err-take_known-clause-sequel g c = rw (sym c.look_beside.ensures.same) (record {
  each_cut = c.take_known.ensures.quiet.sound.stands;
  follows = refused_follows _ _ _ _ _ c.in_err-take_known.ensures.took;
  boxes = refused_boxes _ _ _ _ _ c.in_err-take_known.ensures.took;
  noted = c.take_known.ensures.quiet.noted ∙ c.look_beside.ensures.noted;
  may_leave = may_leave _ c.take_known.ensures.quiet.sound;
})

pub returns-clause-steps : goal.returns-clause-steps
returns-clause-steps g c =
    subst (λ (s : Kept). TakesMany (groups_since s (kept_by c.take_known.new.self (λ z. (goal.Segment-dyn g z).holding z.1))) (machine_of s) (machine_of (kept_by c.take_known.new.self (λ z. (goal.Segment-dyn g z).holding z.1)))) c.look_beside.ensures.same
    (turn_takes _ _ _ (subst IsSound (sym c.look_beside.ensures.same) c.requires.sound) c.in_ok-take_known.ensures.took.1)

pub returns-clause-sequel : goal.returns-clause-sequel
returns-clause-sequel g c = rw (sym c.look_beside.ensures.same) (record {
  each_cut = c.take_known.ensures.quiet.sound.stands;
  follows = c.in_ok-take_known.ensures.took.1.turned.follows;
  boxes = c.in_ok-take_known.ensures.took.1.turned.boxes;
  noted = c.take_known.ensures.quiet.noted ∙ c.look_beside.ensures.noted;
  may_leave = may_leave _ c.take_known.ensures.quiet.sound;
})

pub returns-clause-exactly : goal.returns-clause-exactly
returns-clause-exactly g c =
    exact c.take_known.new.self.intake.lanes.items _ _ c.take_known.new.self.intake.takes
    (c.in_ok-take_known.ensures.taken ∙ c.look_beside.ensures.whole ∙ sym c.look_beside.ensures.accepted)

pub returns-clause-writers : goal.returns-clause-writers
returns-clause-writers g c =
    writers_of c.take_known.new.self.intake.lanes.items _ _
    (c.look_beside.ensures.ends ∙ c.requires.feeds
    ∙ sym (c.in_ok-take_known.ensures.took.1.turned.follows.continues.rings ∙ ap (λ (s : Kept). s.rings) c.look_beside.ensures.same))
    c.take_known.ensures.quiet.sound.writers

pub returns-clause-answer : goal.returns-clause-answer
returns-clause-answer g c = c.len.ensures

pub returns-in_err-take_known-clause-heard : goal.returns-in_err-take_known-clause-heard
returns-in_err-take_known-clause-heard g c =
    let lanes = c.take_known.new.self.intake.lanes.items in
    let rings = (refused_follows _ _ _ _ _ c.in_err-take_known.ensures.took).continues.rings in
    record {
      begins = begin_with lanes _ _ c.take_known.new.self.intake.takes
          (c.take_known.ensures.given ∙ c.look_beside.ensures.whole ∙ sym c.look_beside.ensures.accepted);
      writers = writers_of lanes _ _
          (c.look_beside.ensures.ends ∙ c.requires.feeds ∙ sym (rings ∙ ap (λ (s : Kept). s.rings) c.look_beside.ensures.same))
          c.take_known.ensures.quiet.sound.writers;
    }

pub returns-clause-heard : goal.returns-clause-heard
returns-clause-heard g c =
    let lanes = c.take_known.new.self.intake.lanes.items in
    record {
      begins = begin_with lanes _ _ c.take_known.new.self.intake.takes
          (c.take_known.ensures.given ∙ c.look_beside.ensures.whole ∙ sym c.look_beside.ensures.accepted);
      writers = writers_of lanes _ _
          (c.look_beside.ensures.ends ∙ c.requires.feeds
          ∙ sym (c.in_ok-take_known.ensures.took.1.turned.follows.continues.rings ∙ ap (λ (s : Kept). s.rings) c.look_beside.ensures.same))
          c.take_known.ensures.quiet.sound.writers;
    }
