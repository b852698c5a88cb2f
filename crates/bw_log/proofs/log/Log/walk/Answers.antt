use Rattle.std.proofs.Common.{◌∙◌, rules}
use Rattle.bw_log.proofs.Walked.{place_now, step_is, some_link, end_is, rank_less, stops_on_page}
use Rattle.bw_log.proofs.log.Log.walk.Goals as goal

pub block_at-requires-clause-there : goal.block_at-requires-clause-there
block_at-requires-clause-there g c = place_now _ c.back.invariant.same c.back.invariant.walk

pub returns-then-ends-clause-walked : goal.returns-then-ends-clause-walked
returns-then-ends-clause-walked g c =
    end_is c.push.new.self.items (c.back.invariant.same, c.requires.sound, c.back.invariant.walk, c.in_ok-block.ensures.found)
    c.if-ends.ensures c.in_ok-push.ensures.items

pub back-smaller : goal.back-smaller
back-smaller g c =
    rank_less c.in-Some.back c.back.place
    (step_is c.in-Some.back (c.back.invariant.same, c.requires.sound, c.back.invariant.walk, c.in_ok-block.ensures.found)
    c.if-ends.ensures c.in-Some.ensures).earlier (search rules)

pub back-preserved : goal.back-preserved
back-preserved g c =
    let step = step_is c.in-Some.back (c.back.invariant.same, c.requires.sound, c.back.invariant.walk, c.in_ok-block.ensures.found)
    c.if-ends.ensures c.in-Some.ensures in
    record { same = c.in_ok-block.ensures.stops ∙ c.back.invariant.same; walk = rw c.in_ok-push.ensures.items step.walk }

pub unreachable-requires : goal.unreachable-requires
unreachable-requires g c =
    some_link (c.back.invariant.same, c.requires.sound, c.back.invariant.walk, c.in_ok-block.ensures.found) c.if-ends.ensures c.in-None.ensures

pub returns-in_err-block-clause-stops : goal.returns-in_err-block-clause-stops
returns-in_err-block-clause-stops g c =
    stops_on_page _ c.from_residual.result c.in_err-block.field-0.0 c.from_residual.ensures.1 c.back.invariant.same c.requires.sound c.back.invariant.walk
    c.in_err-block.ensures.stops
