use Rattle.bw_care.specs.Views.{seen}
use Rattle.bw_care.proofs.Tallied.{length_told, length_none}
use Rattle.bw_care.proofs.lengths.length_of.Goals as goal

pub returns-in-Some : goal.returns-in-Some
returns-in-Some g c =
    let log = seen c.args.log.now (λ b. (goal.Segment-dyn g b).holding b.1) in
    length_told _ c.args.i log.live c.live_segment.result _ c.live_segment.ensures c.in-Some.is

pub returns-in-None : goal.returns-in-None
returns-in-None g c =
    let log = seen c.args.log.now (λ b. (goal.Segment-dyn g b).holding b.1) in
    length_none _ c.args.i log.live c.live_segment.result c.live_segment.ensures c.in-None.is
