use Rattle.std.proofs.Common.{◌∙◌, arith}
use Rattle.std.proofs.lemmas.Result.{err_from_is_err_and}
use Rattle.bw_core.proofs.FollowMore.{some_then, some_refused}
use Rattle.bw_core.proofs.LaneByLane.{took_none, took_on}
use Rattle.bw_history.proofs.Laned.{dry_next, given_all}
use Rattle.bw_core.proofs.store.Core.take_known.Goals as goal

pub lanes-init : goal.lanes-init
lanes-init g c = record { taken = took_none _ _ c.requires.sound; dry = λ i lt. absurd (omega arith) }

pub lanes-preserved : goal.lanes-preserved
lanes-preserved g c =
    let i = c.lanes.invariant in
    record {
      taken = took_on _ _ _ _ i.taken c.take_lane.ensures.quiet.sound c.take_lane.ensures.count c.take_lane.ensures.given
          (some_then _ _ _ i.taken.took c.in_ok-take_lane.ensures.took) c.take_lane.ensures.quiet.noted;
      dry = dry_next _ _ c.lanes.lane i.dry c.in_ok-take_lane.ensures.others c.in_ok-take_lane.ensures.dry;
    }

pub returns-in_err-take_lane-clause-took : goal.returns-in_err-take_lane-clause-took
returns-in_err-take_lane-clause-took g c =
    let p = err_from_is_err_and c.from_residual.result c.from_residual.ensures.1 in
    rw (p.1, p.2) (some_refused _ _ _ _ _ _ c.lanes.invariant.taken.took c.in_err-take_lane.ensures.took)

pub returns-clause-taken : goal.returns-clause-taken
returns-clause-taken g c =
    given_all _ (λ i lt. (
    let end = c.lanes-test.false in
    let count = c.lanes.invariant.taken.count in
    let shown = c.writers-lanes.ensures in
    c.lanes.invariant.dry i (omega arith)))
    ∙ c.lanes.invariant.taken.same_given

pub returns-in_err-take_lane-clause-given : goal.returns-in_err-take_lane-clause-given
returns-in_err-take_lane-clause-given g c = c.take_lane.ensures.given ∙ c.lanes.invariant.taken.same_given

pub returns-clause-given : goal.returns-clause-given
returns-clause-given g c = c.lanes.invariant.taken.same_given
