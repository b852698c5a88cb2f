use Rattle.std.proofs.Common.{[], ◌∷◌}
use Rattle.bw_ring.specs.Marks.{marked}
use Rattle.bw_ring.specs.Ends.{taken, given, ring_of_lane}
use Rattle.bw_history.proofs.Laned.{set_kept, took, known_after}
use Rattle.bw_history.proofs.intake.pass_at.Goals as goal

pub returns-clause-rings : goal.returns-clause-rings
returns-clause-rings c = set_kept ring_of_lane c.args.lanes.now.items c.args.at c.pass_alone.new.self c.index_mut.result.now c.requires.inside
    c.index_mut.ensures.value c.pass_alone.ensures.ring

pub returns-clause-took : goal.returns-clause-took
returns-clause-took c = took taken c.args.lanes.now.items c.args.at c.pass_alone.new.self c.index_mut.result.now (marked (c.args.item.now ∷ []))
    c.requires.inside
    c.index_mut.ensures.value c.pass_alone.ensures.added

pub returns-clause-given : goal.returns-clause-given
returns-clause-given c = set_kept given c.args.lanes.now.items c.args.at c.pass_alone.new.self c.index_mut.result.now c.requires.inside
    c.index_mut.ensures.value c.pass_alone.ensures.given

pub returns-clause-known : goal.returns-clause-known
returns-clause-known c = known_after c.args.lanes.now.items c.args.at c.pass_alone.new.self c.index_mut.result.now (c.args.item.now ∷ []) c.requires.inside
    c.index_mut.ensures.value c.pass_alone.ensures.first
