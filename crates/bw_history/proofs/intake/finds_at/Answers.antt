use Rattle.bw_ring.specs.Ends.{taken, ring_of_lane}
use Rattle.bw_history.proofs.Laned.{set_kept, waits_set, dries_set, know_more}
use Rattle.bw_history.proofs.intake.finds_at.Goals as goal

pub returns-clause-rings : goal.returns-clause-rings
returns-clause-rings c = set_kept ring_of_lane c.args.lanes.now.items c.args.at c.finds_one.new.lane c.index_mut.result.now c.requires c.index_mut.ensures.value
    c.finds_one.ensures.ring

pub returns-clause-taken : goal.returns-clause-taken
returns-clause-taken c = set_kept taken c.args.lanes.now.items c.args.at c.finds_one.new.lane c.index_mut.result.now c.requires c.index_mut.ensures.value
    c.finds_one.ensures.taken

pub returns-clause-waits : goal.returns-clause-waits
returns-clause-waits c = λ finds. waits_set c.args.lanes.now.items c.args.at c.finds_one.new.lane c.requires (c.finds_one.ensures.some finds)

pub returns-clause-none : goal.returns-clause-none
returns-clause-none c = λ none. dries_set c.args.lanes.now.items c.args.at c.finds_one.new.lane c.requires (c.finds_one.ensures.none none)

pub returns-clause-knows : goal.returns-clause-knows
returns-clause-knows c = know_more c.args.lanes.now.items c.args.at c.finds_one.new.lane c.index_mut.result.now c.requires c.index_mut.ensures.value
    c.finds_one.ensures.kept
