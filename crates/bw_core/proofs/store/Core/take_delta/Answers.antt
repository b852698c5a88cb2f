use Rattle.std.proofs.Common.{◌∷◌, ◌∙◌, ◌≤◌, [], inl, false, refl, length, sym, ap, subst, arith}
use Rattle.bw_page.specs.Leaves.{directed_at, result_of}
use Rattle.bw_page.specs.Shown.{Shown}
use Rattle.bw_core.specs.Views.{kept_by}
use Rattle.bw_core.proofs.Planned.{entered_or_not, flushed_empty, flushed_or_not}
use Rattle.bw_core.proofs.Deltas.{delta_fits, delta_full, delta_in_empty}
use Rattle.std.proofs.lemmas.Result.{err_from_is_err_and}
use Rattle.bw_core.proofs.Refusing.{flush_refuses, stopped_unplanned, unplanned_after, unplanned_now, worked}
use Rattle.bw_core.proofs.store.Core.take_delta.Goals as goal

pub returns-in_err-goes_on-clause-leaves : goal.returns-in_err-goes_on-clause-leaves
returns-in_err-goes_on-clause-leaves g c =
    let p = err_from_is_err_and c.from_residual.result c.from_residual.ensures.1 in
    rw (p.1, p.2) (unplanned_now _ (c.args.item.now ∷ []) _ _ (stopped_unplanned (c.args.item.now ∷ []) _ _ c.in_err-goes_on.ensures.refused))

pub enter_delta-requires-clause-fits : goal.enter_delta-requires-clause-fits
enter_delta-requires-clause-fits g c = λ back. (c.has_room_for.ensures back).0 c.if-has_room_for.true

pub returns-then-has_room_for-clause-leaves : goal.returns-then-has_room_for-clause-leaves
returns-then-has_room_for-clause-leaves g c =
    let s = kept_by c.args.self.now (λ z. (goal.Segment-dyn g z).holding z.1) in
    entered_or_not _ _ _ _ _ (c.args.item.now ∷ []) _ (omega arith, omega arith) c.in_ok-goes_on.ensures.works (inl refl)
    (delta_fits s c.args.item.now c.args.page c.requires.at.directed c.requires.whole (λ back. (c.has_room_for.ensures back).0 c.if-has_room_for.true))
    c.in_ok-goes_on.ensures.works c.enter_delta.ensures.ok c.enter_delta.ensures.unchanged c.enter_delta.ensures.refused

pub returns-in_err-flush_making-clause-leaves : goal.returns-in_err-flush_making-clause-leaves
returns-in_err-flush_making-clause-leaves g c =
    let s = kept_by c.args.self.now (λ z. (goal.Segment-dyn g z).holding z.1) in
    let p = err_from_is_err_and c.from_residual-in_err-flush_making.result c.from_residual-in_err-flush_making.ensures.1 in
    rw (p.1, p.2) (flush_refuses _ (c.args.item.now ∷ []) s _ c.in_err-flush_making.field-0.0
    (delta_full s c.args.item.now c.args.page c.requires.at.directed c.requires.whole c.has_room_for.ensures c.if-has_room_for.false)
    c.in_err-flush_making.ensures.answers c.in_err-flush_making.ensures.leaves)

pub returns-in_err-goes_on-2-clause-leaves : goal.returns-in_err-goes_on-2-clause-leaves
returns-in_err-goes_on-2-clause-leaves g c =
    let s = kept_by c.args.self.now (λ z. (goal.Segment-dyn g z).holding z.1) in
    let p = err_from_is_err_and c.from_residual-in_err-goes_on-2.result c.from_residual-in_err-goes_on-2.ensures.1 in
    rw (p.1, p.2) (unplanned_after _ (c.args.item.now ∷ []) _ _ c.in_err-goes_on-2.field-0.0 c.in_ok-goes_on.ensures.works
    (flushed_or_not (c.args.item.now ∷ []) s _ _
    (delta_full s c.args.item.now c.args.page c.requires.at.directed c.requires.whole c.has_room_for.ensures c.if-has_room_for.false)
    c.in_ok-flush_making.ensures.answers c.in_ok-flush_making.ensures.leaves)
    (worked false _ _ _ c.in_ok-flush_making.ensures.answers c.in_ok-flush_making.ensures.leaves)
    (stopped_unplanned (c.args.item.now ∷ []) _ _ c.in_err-goes_on-2.ensures.refused))

pub enter_delta-requires-2-clause-fits : goal.enter_delta-requires-2-clause-fits
enter_delta-requires-2-clause-fits g c =
    delta_in_empty (kept_by c.flush_making.new.self (λ z. (goal.Segment-dyn g z).holding z.1)) c.args.page c.args.item.now c.flush_making.ensures.keeps.sound
    (flushed_empty _ _ _ c.in_ok-flush_making.ensures.leaves) c.key.ensures.lawful

pub returns-clause-leaves : goal.returns-clause-leaves
returns-clause-leaves g c =
    let s = kept_by c.args.self.now (λ z. (goal.Segment-dyn g z).holding z.1) in
    let behind = kept_by c.flush_making.new.self (λ z. (goal.Segment-dyn g z).holding z.1) in
    let same = sym c.flush_making.ensures.pages in
    entered_or_not _ _ _ _ _ (c.args.item.now ∷ []) _ (omega arith, omega arith) c.in_ok-goes_on.ensures.works
    (flushed_or_not (c.args.item.now ∷ []) s _ _
    (delta_full s c.args.item.now c.args.page c.requires.at.directed c.requires.whole c.has_room_for.ensures c.if-has_room_for.false)
    c.in_ok-flush_making.ensures.answers c.in_ok-flush_making.ensures.leaves)
    (delta_fits behind c.args.item.now c.args.page (c.requires.at.directed ∙ ap (λ (f : Shown). directed_at f.leaves c.args.item.now) same)
    (subst (λ (f : Shown). length (result_of f.leaves c.args.item.now).pairs ≤ f.m) same c.requires.whole)
    (delta_in_empty behind c.args.page c.args.item.now c.flush_making.ensures.keeps.sound (flushed_empty _ _ _ c.in_ok-flush_making.ensures.leaves)
    c.key.ensures.lawful))
    c.in_ok-goes_on-2.ensures.works c.enter_delta-2.ensures.ok c.enter_delta-2.ensures.unchanged c.enter_delta-2.ensures.refused
