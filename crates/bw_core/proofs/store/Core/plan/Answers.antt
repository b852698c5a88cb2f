use Rattle.std.proofs.Common.{sym, ◌∷◌, []}
use Rattle.std.proofs.lemmas.Result.{err_from_is_err_and}
use Rattle.bw_core.specs.Views.{kept_by}
use Rattle.bw_core.proofs.EvictedPages.{page_within}
use Rattle.bw_core.proofs.Planned.{plan_all, one_refused}
use Rattle.bw_core.proofs.Refusing.{stopped_unplanned}
use Rattle.bw_core.proofs.store.Core.plan.Goals as goal

pub planned_for-requires-clause-within : goal.planned_for-requires-clause-within
planned_for-requires-clause-within g c =
    page_within (kept_by c.args.self.now (λ z. (goal.Segment-dyn g z).holding z.1)) c.requires.sound c.args.item.now c.args.page c.requires.at.directed

pub returns-clause-lawful : goal.returns-clause-lawful
returns-clause-lawful g c =
    let e = c.in_ok-plan.ensures in
    let all = plan_all _ c.requires.sound c.args.item.now c.key.ensures.lawful c.in_ok-goes_on.ensures.frame.next c.room.result c.room.ensures c.args.page
    c.requires.at.directed c.place_for-here.result c.place_for-here.ensures c.in_ok-plan.plan e.page (rw (sym c.deref.ensures.value) e.back) e.room e.blocks in
    (all.0, all.1)

pub returns-clause-short : goal.returns-clause-short
returns-clause-short g c =
    let e = c.in_ok-plan.ensures in
    let all = plan_all _ c.requires.sound c.args.item.now c.key.ensures.lawful c.in_ok-goes_on.ensures.frame.next c.room.result c.room.ensures c.args.page
    c.requires.at.directed c.place_for-here.result c.place_for-here.ensures c.in_ok-plan.plan e.page (rw (sym c.deref.ensures.value) e.back) e.room e.blocks in
    all.3

pub returns-in_err-goes_on-clause-refused : goal.returns-in_err-goes_on-clause-refused
returns-in_err-goes_on-clause-refused g c =
    let p = err_from_is_err_and c.from_residual.result c.from_residual.ensures.1 in
    rw (p.1, p.2) (stopped_unplanned (c.args.item.now ∷ []) _ _ c.in_err-goes_on.ensures.refused)

pub returns-in_err-plan-clause-refused : goal.returns-in_err-plan-clause-refused
returns-in_err-plan-clause-refused g c =
    let p = err_from_is_err_and c.from_residual-in_err-plan.result c.from_residual-in_err-plan.ensures.1 in
    rw (p.1, p.2) (one_refused _ c.args.item.now _ c.in_ok-goes_on.ensures.works c.in_err-plan.ensures.refused)
