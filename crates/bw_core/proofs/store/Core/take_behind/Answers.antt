use Rattle.std.proofs.Common.{◌≡◌, ◌<◌, Some, List, length, false, sym, subst, arith}
use Rattle.std.proofs.lemmas.Result.{err_from_is_err_and}
use Rattle.bw_record.specs.declared.record.Record.{Record}
use Rattle.bw_page.specs.Leaves.{HasPages}
use Rattle.bw_core.specs.Kept.{Kept}
use Rattle.bw_core.specs.Taking.{Refuses}
use Rattle.bw_core.specs.Views.{away_in, kept_by}
use Rattle.bw_history.specs.declared.intake.Intake.{Intake}
use Rattle.bw_core.proofs.EnterMore.{draft_none, drafted_left, fresh_room, unplanned_as}
use Rattle.bw_core.proofs.MayEnter.{lane_inside}
use Rattle.bw_core.proofs.Planned.{flushed_empty, flushed_or_not}
use Rattle.bw_core.proofs.Refusing.{flush_refuses, unplanned_after, worked}
use Rattle.bw_core.proofs.store.Core.take_behind.Goals as goal

pub returns-in_err-flush_making-clause-leaves : goal.returns-in_err-flush_making-clause-leaves
returns-in_err-flush_making-clause-leaves g c =
    let p = err_from_is_err_and c.from_residual.result c.from_residual.ensures.1 in
    rw (p.1, p.2) (flush_refuses _ c.args.group _ _ c.in_err-flush_making.field-0.0 c.requires.full
    c.in_err-flush_making.ensures.answers c.in_err-flush_making.ensures.leaves)

pub returns-in_err-draft-clause-leaves : goal.returns-in_err-draft-clause-leaves
returns-in_err-draft-clause-leaves g c =
    let old = kept_by c.args.self.now (λ z. (goal.Segment-dyn g z).holding z.1) in
    let flushed = kept_by c.flush_making.new.self (λ z. (goal.Segment-dyn g z).holding z.1) in
    let cause = c.in_err-draft.field-0.0 in
    let p = err_from_is_err_and c.from_residual-in_err-draft.result c.from_residual-in_err-draft.ensures.1 in
    rw (p.1, p.2) (subst (λ (s : Kept). Refuses (away_in c.draft.new.self) c.args.group old cause s) (sym c.draft.ensures.same)
    (unplanned_after (away_in c.draft.new.self) c.args.group old flushed cause c.requires.works
    (flushed_or_not c.args.group _ _ _ c.requires.full c.in_ok-flush_making.ensures.answers c.in_ok-flush_making.ensures.leaves)
    (worked false _ _ _ c.in_ok-flush_making.ensures.answers c.in_ok-flush_making.ensures.leaves)
    (unplanned_as flushed c.args.group _ cause c.as_slice.ensures.value c.in_err-draft.ensures.refused)))

pub unreachable-requires : goal.unreachable-requires
unreachable-requires g c =
    let flushed = kept_by c.flush_making.new.self (λ z. (goal.Segment-dyn g z).holding z.1) in
    let count = c.len.ensures.value in
    let few = c.len.ensures.few in
    let most = few.1 in
    draft_none flushed c.args.group _ c.in_ok-draft.field-0 c.as_slice.ensures.value c.in-None.is c.in_ok-draft.ensures.draft
    (fresh_room flushed c.args.lane c.args.group c.flush_making.ensures.keeps.sound c.in_ok-draft.ensures.works
    (subst (λ (s : Kept). s.log.next ≡ Some s.making.frame) c.draft.ensures.same c.in_ok-draft.ensures.next) c.requires.packed.lawful
    (subst (λ (rs : List Record). HasPages flushed.filed.m flushed.filed.leaves rs) c.as_slice.ensures.value c.in_ok-draft.ensures.room)
    (lane_inside _ _ (subst (λ (i : Intake). c.args.lane < length i.lanes.items) (sym c.flush_making.ensures.keeps.intake) c.requires.comes.inside))
    (flushed_empty _ _ _ c.in_ok-flush_making.ensures.leaves) (omega arith))

pub returns-clause-leaves : goal.returns-clause-leaves
returns-clause-leaves g c =
    let flushed = kept_by c.flush_making.new.self (λ z. (goal.Segment-dyn g z).holding z.1) in
    let count = c.len.ensures.value in
    let few = c.len.ensures.few in
    let least = few.0 in
    let most = few.1 in
    drafted_left c.args.lane _ _ flushed _ _ c.args.group _ c.in_ok-draft.field-0 c.in-Some.draft _ (omega arith, omega arith) c.requires.works
    (flushed_or_not c.args.group _ _ _ c.requires.full c.in_ok-flush_making.ensures.answers c.in_ok-flush_making.ensures.leaves)
    c.in_ok-draft.ensures.works c.draft.ensures.same
    c.as_slice.ensures.value c.in-Some.is c.in_ok-draft.ensures.draft
    c.enter_all.ensures.ok c.enter_all.ensures.unchanged c.enter_all.ensures.refused
