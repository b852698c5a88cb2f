use Rattle.std.proofs.Common.{List, ap, map, ◌∙◌}
use Rattle.bw_ring.specs.Ends.{given}
use Rattle.bw_ring.specs.declared.lane.Lane.{Lane}
use Rattle.bw_core.proofs.FollowMore.{any_then}
use Rattle.bw_core.proofs.LaneByLane.{took_none, took_on}
use Rattle.bw_history.proofs.Laned.{none_waits, took_dry, took_fewer}
use Rattle.bw_core.proofs.store.Core.take_lane.Goals as goal

pub records-init : goal.records-init
records-init g c = record { taken = took_none _ _ c.requires.sound; others = λ i e. e }

pub records-preserved : goal.records-preserved
records-preserved g c =
    let i = c.records.invariant in
    record {
      taken = took_on _ _ _ _ i.taken c.take_waiting.ensures.takes.sound c.take_waiting.ensures.takes.count c.in_ok-take_waiting.ensures.takes.given
          (any_then c.args.lane _ _ _ i.taken.took c.in_ok-take_waiting.ensures.leaves) c.take_waiting.ensures.takes.noted;
      others = λ j e. took_dry c.args.lane _ _ c.in_ok-take_waiting.ensures.takes.known j (i.others j e);
    }

pub records-smaller : goal.records-smaller
records-smaller g c =
    took_fewer c.args.lane _ _ c.in_ok-take_waiting.ensures.takes.known (c.waits.ensures.0 c.records-test.true)

pub returns-clause-dry : goal.returns-clause-dry
returns-clause-dry g c = none_waits _ c.waits.result c.waits.ensures.1 c.records-test.false

pub returns-in_err-take_waiting-clause-given : goal.returns-in_err-take_waiting-clause-given
returns-in_err-take_waiting-clause-given g c =
    ap (λ (ls : List Lane). map given ls) c.in_err-take_waiting.ensures.takes.stays ∙ c.records.invariant.taken.same_given

pub returns-clause-given : goal.returns-clause-given
returns-clause-given g c = c.records.invariant.taken.same_given
