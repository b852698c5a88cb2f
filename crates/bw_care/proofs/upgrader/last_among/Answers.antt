use Rattle.std.proofs.Common.{◌≡◌, ◌<◌, max, length, arith}
use Rattle.bw_care.specs.Views.{seen}
use Rattle.bw_care.proofs.UpgradeSteps.{among_more}
use Rattle.bw_care.proofs.upgrader.last_among.Goals.{then-last-number, else-last-number}
use Rattle.bw_care.proofs.upgrader.last_among.Goals as goal

pub loop-i-preserved : goal.loop-i-preserved
loop-i-preserved g c =
    let log = seen c.args.log.now (λ b. (goal.Segment-dyn g b).holding b.1) in
    let inside : c.loop-i.i < length log.live = (let within = c.requires.inside in omega (arith, c.loop-i-test.true, within)) in
    let most : c.if-last-number.last ≡ max c.loop-i.last c.in-Some.number = elim c.if-last-number.branch [
      | then-last-number w ↦ omega (arith, w.if-last-number.true, w.last-is)
      | else-last-number w ↦ omega (arith, w.if-last-number.false, w.last-is)
    ] in
    among_more log log.live c.loop-i.i c.in-Some.number c.loop-i.last c.if-last-number.last c.live_last.result inside c.live_last.ensures c.in-Some.is
    c.loop-i.invariant most
