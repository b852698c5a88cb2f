use Rattle.std.proofs.Common.{arith}
use Rattle.bw_core.specs.Needed.{needed_in}
use Rattle.bw_core.specs.Views.{kept_by}
use Rattle.bw_core.proofs.NeededMore.{needed_told, needed_some}
use Rattle.bw_core.proofs.store.Core.pays.Goals as goal

pub returns-in-Some : goal.returns-in-Some
returns-in-Some g c =
    let s = kept_by c.args.self.now (λ z. (goal.Segment-dyn g z).holding z.1) in
    let many = c.if-live-lt2.false in
    let live = c.live.ensures in
    let told = needed_told s.log.live c.needed.result (needed_in s 0) c.in-Some.needed (omega arith) c.needed.ensures c.in-Some.is in
    let length = c.length_of-length.ensures in (
      λ t. (let won = c.is_won.ensures.0 t in (omega arith, omega arith)),
      λ p. c.is_won.ensures.1 (let won = p.1 in omega arith),
    )

pub returns-in-None : goal.returns-in-None
returns-in-None g c =
    let s = kept_by c.args.self.now (λ z. (goal.Segment-dyn g z).holding z.1) in
    let many = c.if-live-lt2.false in
    let live = c.live.ensures in
    absurd (needed_some s.log.live c.needed.result (needed_in s 0) (omega arith) c.needed.ensures c.in-None.is)
