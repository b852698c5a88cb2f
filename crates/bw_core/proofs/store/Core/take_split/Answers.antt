use Rattle.std.proofs.Common.{◌∷◌, [], false, inl, refl, arith}
use Rattle.bw_core.proofs.Planned.{entered_or_not, fits_empty, flushed_empty, flushed_or_not, no_room, one_entered, plan_fits, plan_full, some_room}
use Rattle.std.proofs.lemmas.Result.{err_from_is_err_and}
use Rattle.bw_core.proofs.Refusing.{flush_refuses, unplanned_after, worked}
use Rattle.bw_core.proofs.store.Core.take_split.Goals as goal

pub returns-then-has_room-clause-leaves : goal.returns-then-has_room-clause-leaves
returns-then-has_room-clause-leaves g c =
    entered_or_not _ _ _ _ _ (c.args.item.now ∷ []) _ (omega arith, omega arith) c.in_ok-plan.ensures.works (inl refl)
    (plan_fits _ c.args.item.now c.in_ok-plan.plan c.in_ok-plan.ensures.plan
    (some_room c.args.self.now.pages.making _ _ c.has_room.ensures c.if-has_room.true c.as_slice.ensures)) c.in_ok-plan.ensures.works
    (one_entered _ _ c.args.lane c.args.item.now c.in_ok-plan.plan _ c.in_ok-plan.ensures.plan c.enter.ensures.ok) c.enter.ensures.unchanged c.enter.ensures.refused

pub returns-in_err-flush_making-clause-leaves : goal.returns-in_err-flush_making-clause-leaves
returns-in_err-flush_making-clause-leaves g c =
    let p = err_from_is_err_and c.from_residual-in_err-flush_making.result c.from_residual-in_err-flush_making.ensures.1 in
    rw (p.1, p.2) (flush_refuses _ (c.args.item.now ∷ []) _ _ c.in_err-flush_making.field-0.0
    (plan_full _ c.args.item.now c.in_ok-plan.plan c.in_ok-plan.ensures.plan
    (no_room c.args.self.now.pages.making _ _ c.has_room.ensures c.if-has_room.false c.as_slice.ensures))
    c.in_err-flush_making.ensures.answers c.in_err-flush_making.ensures.leaves)

pub returns-in_err-plan-2-clause-leaves : goal.returns-in_err-plan-2-clause-leaves
returns-in_err-plan-2-clause-leaves g c =
    let p = err_from_is_err_and c.from_residual-in_err-plan-2.result c.from_residual-in_err-plan-2.ensures.1 in
    rw (p.1, p.2) (unplanned_after _ (c.args.item.now ∷ []) _ _ c.in_err-plan-2.field-0.0 c.in_ok-plan.ensures.works
    (flushed_or_not (c.args.item.now ∷ []) _ _ _ (plan_full _ c.args.item.now c.in_ok-plan.plan c.in_ok-plan.ensures.plan
    (no_room c.args.self.now.pages.making _ _ c.has_room.ensures c.if-has_room.false c.as_slice.ensures))
    c.in_ok-flush_making.ensures.answers c.in_ok-flush_making.ensures.leaves)
    (worked false _ _ _ c.in_ok-flush_making.ensures.answers c.in_ok-flush_making.ensures.leaves) c.in_err-plan-2.ensures.refused)

pub returns-clause-leaves : goal.returns-clause-leaves
returns-clause-leaves g c =
    entered_or_not _ _ _ _ _ (c.args.item.now ∷ []) _ (omega arith, omega arith) c.in_ok-plan.ensures.works
    (flushed_or_not (c.args.item.now ∷ []) _ _ _ (plan_full _ c.args.item.now c.in_ok-plan.plan c.in_ok-plan.ensures.plan
    (no_room c.args.self.now.pages.making _ _ c.has_room.ensures c.if-has_room.false c.as_slice.ensures))
    c.in_ok-flush_making.ensures.answers c.in_ok-flush_making.ensures.leaves)
    (plan_fits _ c.args.item.now c.in_ok-plan-2.plan c.in_ok-plan-2.ensures.plan
    (fits_empty _ _ c.flush_making.ensures.keeps.sound (flushed_empty _ _ _ c.in_ok-flush_making.ensures.leaves) c.in_ok-plan-2.ensures.short))
    c.in_ok-plan-2.ensures.works
    (one_entered _ _ c.args.lane c.args.item.now c.in_ok-plan-2.plan _ c.in_ok-plan-2.ensures.plan c.enter-2.ensures.ok) c.enter-2.ensures.unchanged
    c.enter-2.ensures.refused

pub enter-requires-2-clause-fits : goal.enter-requires-2-clause-fits
enter-requires-2-clause-fits g c =
    rw c.as_slice-2.ensures
    (fits_empty _ _ c.flush_making.ensures.keeps.sound (flushed_empty _ _ _ c.in_ok-flush_making.ensures.leaves) c.in_ok-plan-2.ensures.short)
