use Rattle.std.proofs.Common.{false, Err, ap, sym, subst, inl, inr, ◌∙◌, map}
use Rattle.std.proofs.lemmas.Result.{err_from_is_err_and}
use Rattle.bw_ring.specs.Ends.{given, taken, ring_of_lane}
use Rattle.bw_core.specs.Kept.{IsSound, Kept}
use Rattle.bw_core.specs.Machine.{machine_of}
use Rattle.bw_core.specs.Views.{kept_by}
use Rattle.bw_history.specs.Machine.{TakesAndKeeps, TakesAndStops}
use Rattle.bw_core.proofs.FollowMore.{failed_at, failed_flushes, failed_never, refused_boxes, refused_follows, flushed_boxes, flushed_follows}
use Rattle.bw_core.proofs.HeardMore.{begin_with}
use Rattle.bw_core.proofs.Machines.{may_leave, refused_stops, settle_keeps, settle_stops}
use Rattle.bw_history.proofs.Laned.{exact, writers_of}
use Rattle.bw_core.proofs.SettledMore.{settled_by}
use Rattle.bw_core.proofs.store.Core.settle.Goals as goal

pub returns-in_err-take_known-clause-refused : goal.returns-in_err-take_known-clause-refused
returns-in_err-take_known-clause-refused g c =
    let p = err_from_is_err_and c.from_residual.result c.from_residual.ensures.1 in
    rw (p.1, p.2, sym c.look_beside.ensures.same) (inl c.in_err-take_known.ensures.took)

pub returns-in_err-take_known-clause-failed : goal.returns-in_err-take_known-clause-failed
returns-in_err-take_known-clause-failed g c =
    let p = err_from_is_err_and c.from_residual.result c.from_residual.ensures.1 in
    let same = ap (λ (s : Kept). s.log.is_failed) c.look_beside.ensures.same in
    rw (p.1, p.2) (λ failed. ap (λ f. Err f) (failed_at _ _ _ _ _ (same ∙ failed) c.in_err-take_known.ensures.took))

pub returns-in_err-take_known-clause-steps : goal.returns-in_err-take_known-clause-steps
returns-in_err-take_known-clause-steps g c =
    let p = err_from_is_err_and c.from_residual.result c.from_residual.ensures.1 in
    rw p.1 (subst (λ (s : Kept). TakesAndStops (machine_of s) (machine_of (kept_by c.take_known.new.self (λ z. (goal.Segment-dyn g z).holding z.1)))) c.look_beside.ensures.same
    (refused_stops _ _ _ _ _ _ (subst IsSound (sym c.look_beside.ensures.same) c.requires.sound) c.in_err-take_known.ensures.took.1))

pub returns-in_err-take_known-clause-sequel : goal.returns-in_err-take_known-clause-sequel
returns-in_err-take_known-clause-sequel g c = rw (sym c.look_beside.ensures.same) (record {
  each_cut = c.take_known.ensures.quiet.sound.stands;
  follows = refused_follows _ _ _ _ _ c.in_err-take_known.ensures.took;
  boxes = refused_boxes _ _ _ _ _ c.in_err-take_known.ensures.took;
  noted = c.take_known.ensures.quiet.noted ∙ c.look_beside.ensures.noted;
  may_leave = may_leave _ c.take_known.ensures.quiet.sound;
})

pub returns-in_err-flush_making-clause-refused : goal.returns-in_err-flush_making-clause-refused
returns-in_err-flush_making-clause-refused g c =
    let p = err_from_is_err_and c.from_residual-in_err-flush_making.result c.from_residual-in_err-flush_making.ensures.1 in
    rw (p.1, p.2, sym c.look_beside.ensures.same)
    (inr (_, c.in_ok-take_known.ensures.took, c.in_err-flush_making.ensures.answers, c.in_err-flush_making.ensures.leaves))

pub returns-in_err-flush_making-clause-failed : goal.returns-in_err-flush_making-clause-failed
returns-in_err-flush_making-clause-failed g c =
    let p = err_from_is_err_and c.from_residual-in_err-flush_making.result c.from_residual-in_err-flush_making.ensures.1 in
    let same = ap (λ (s : Kept). s.log.is_failed) c.look_beside.ensures.same in
    rw (p.1, p.2)
    (λ failed. ap (λ f. Err f) (failed_flushes _ _ _ (same ∙ failed) c.in_ok-take_known.ensures.took c.in_err-flush_making.ensures.answers))

pub returns-in_err-flush_making-clause-steps : goal.returns-in_err-flush_making-clause-steps
returns-in_err-flush_making-clause-steps g c =
    let p = err_from_is_err_and c.from_residual-in_err-flush_making.result c.from_residual-in_err-flush_making.ensures.1 in
    rw p.1 (subst (λ (s : Kept). TakesAndStops (machine_of s) (machine_of (kept_by c.flush_making.new.self (λ z. (goal.Segment-dyn g z).holding z.1)))) c.look_beside.ensures.same
    (settle_stops _ _ _ _ (subst IsSound (sym c.look_beside.ensures.same) c.requires.sound) c.in_ok-take_known.ensures.took
    c.take_known.ensures.quiet.sound c.in_err-flush_making.ensures.answers c.in_err-flush_making.ensures.leaves))

pub returns-in_err-flush_making-clause-sequel : goal.returns-in_err-flush_making-clause-sequel
returns-in_err-flush_making-clause-sequel g c = rw (sym c.look_beside.ensures.same) (record {
  each_cut = c.flush_making.ensures.keeps.sound.stands;
  follows = flushed_follows _ _ _ _ c.in_ok-take_known.ensures.took c.flush_making.ensures.leaves;
  boxes = flushed_boxes _ _ _ _ c.in_ok-take_known.ensures.took c.flush_making.ensures.leaves;
  noted = c.flush_making.ensures.keeps.noted ∙ c.take_known.ensures.quiet.noted ∙ c.look_beside.ensures.noted;
  may_leave = may_leave _ c.flush_making.ensures.keeps.sound;
})

pub returns-clause-failed : goal.returns-clause-failed
returns-clause-failed g c =
    let same = ap (λ (s : Kept). s.log.is_failed) c.look_beside.ensures.same in
    λ failed. absurd (failed_never _ _ _ (same ∙ failed) c.in_ok-take_known.ensures.took c.in_ok-flush_making.ensures.answers)

pub returns-clause-steps : goal.returns-clause-steps
returns-clause-steps g c =
    subst (λ (s : Kept). TakesAndKeeps (machine_of s) (machine_of (kept_by c.flush_making.new.self (λ z. (goal.Segment-dyn g z).holding z.1)))) c.look_beside.ensures.same
    (settle_keeps _ _ _ _ (subst IsSound (sym c.look_beside.ensures.same) c.requires.sound) c.in_ok-take_known.ensures.took
    c.take_known.ensures.quiet.sound c.in_ok-flush_making.ensures.answers c.in_ok-flush_making.ensures.leaves)

pub returns-clause-sequel : goal.returns-clause-sequel
returns-clause-sequel g c = rw (sym c.look_beside.ensures.same) (record {
  each_cut = c.flush_making.ensures.keeps.sound.stands;
  follows = flushed_follows _ _ _ _ c.in_ok-take_known.ensures.took c.flush_making.ensures.leaves;
  boxes = flushed_boxes _ _ _ _ c.in_ok-take_known.ensures.took c.flush_making.ensures.leaves;
  noted = c.flush_making.ensures.keeps.noted ∙ c.take_known.ensures.quiet.noted ∙ c.look_beside.ensures.noted;
  may_leave = may_leave _ c.flush_making.ensures.keeps.sound;
})

pub returns-clause-goal : goal.returns-clause-goal
returns-clause-goal g c =
    let settled = settled_by false _ _ _ c.in_ok-flush_making.ensures.keeps.sound c.in_ok-flush_making.ensures.answers c.in_ok-flush_making.ensures.leaves in
    rw (sym c.look_beside.ensures.same) (record {
      exactly = exact c.flush_making.new.self.intake.lanes.items _ _ c.flush_making.new.self.intake.takes
          (ap (λ i. map taken i.lanes.items) c.flush_making.ensures.keeps.intake ∙ c.in_ok-take_known.ensures.taken
          ∙ c.look_beside.ensures.whole ∙ sym c.look_beside.ensures.accepted);
      writers = writers_of c.flush_making.new.self.intake.lanes.items _ _
          (c.look_beside.ensures.ends ∙ c.requires.feeds
          ∙ sym (ap (λ i. map ring_of_lane i.lanes.items) c.flush_making.ensures.keeps.intake
          ∙ c.in_ok-take_known.ensures.took.1.turned.follows.continues.rings
          ∙ ap (λ (s : Kept). s.rings) c.look_beside.ensures.same)) c.flush_making.ensures.keeps.sound.writers;
      last_cut = settled.cut;
      shares = c.flush_making.ensures.keeps.sound.shares;
      whole = settled.whole;
      stand = settled.stands;
      answer = c.len.ensures;
      settles = (
        _,
        c.in_ok-take_known.ensures.took,
        record {
          number = _;
          answers = c.in_ok-flush_making.ensures.answers;
          leaves = c.in_ok-flush_making.ensures.leaves;
        },
      );
    })

pub returns-in_err-take_known-clause-heard : goal.returns-in_err-take_known-clause-heard
returns-in_err-take_known-clause-heard g c =
    let lanes = c.take_known.new.self.intake.lanes.items in
    let rings = (refused_follows _ _ _ _ _ c.in_err-take_known.ensures.took).continues.rings in
    record {
      begins = begin_with lanes _ _ c.take_known.new.self.intake.takes
          (c.take_known.ensures.given ∙ c.look_beside.ensures.whole ∙ sym c.look_beside.ensures.accepted);
      writers = writers_of lanes _ _
          (c.look_beside.ensures.ends ∙ c.requires.feeds ∙ sym (rings ∙ ap (λ (s : Kept). s.rings) c.look_beside.ensures.same))
          c.take_known.ensures.quiet.sound.writers;
    }

pub returns-in_err-flush_making-clause-heard : goal.returns-in_err-flush_making-clause-heard
returns-in_err-flush_making-clause-heard g c =
    let lanes = c.flush_making.new.self.intake.lanes.items in
    let same = c.flush_making.ensures.keeps.intake in
    record {
      begins = begin_with lanes _ _ c.flush_making.new.self.intake.takes
          (ap (λ i. map given i.lanes.items) same ∙ c.take_known.ensures.given ∙ c.look_beside.ensures.whole
          ∙ sym c.look_beside.ensures.accepted);
      writers = writers_of lanes _ _
          (c.look_beside.ensures.ends ∙ c.requires.feeds
          ∙ sym (ap (λ i. map ring_of_lane i.lanes.items) same ∙ c.in_ok-take_known.ensures.took.1.turned.follows.continues.rings
          ∙ ap (λ (s : Kept). s.rings) c.look_beside.ensures.same)) c.flush_making.ensures.keeps.sound.writers;
    }

pub returns-clause-heard : goal.returns-clause-heard
returns-clause-heard g c =
    let lanes = c.flush_making.new.self.intake.lanes.items in
    let same = c.flush_making.ensures.keeps.intake in
    record {
      begins = begin_with lanes _ _ c.flush_making.new.self.intake.takes
          (ap (λ i. map given i.lanes.items) same ∙ c.take_known.ensures.given ∙ c.look_beside.ensures.whole
          ∙ sym c.look_beside.ensures.accepted);
      writers = writers_of lanes _ _
          (c.look_beside.ensures.ends ∙ c.requires.feeds
          ∙ sym (ap (λ i. map ring_of_lane i.lanes.items) same ∙ c.in_ok-take_known.ensures.took.1.turned.follows.continues.rings
          ∙ ap (λ (s : Kept). s.rings) c.look_beside.ensures.same)) c.flush_making.ensures.keeps.sound.writers;
    }
