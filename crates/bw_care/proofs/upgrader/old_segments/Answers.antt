use Rattle.bw_care.specs.Views.{seen}
use Rattle.bw_care.specs.Upgrading.{old_segments}
use Rattle.std.proofs.Common.{◌<◌, length, arith}
use Rattle.bw_care.proofs.UpgradeSteps.{old_more, old_ends}
use Rattle.bw_care.proofs.upgrader.old_segments.Goals as goal

pub returns-then-version-ne1 : goal.returns-then-version-ne1
returns-then-version-ne1 g c =
    let log = seen c.args.log.now (λ b. (goal.Segment-dyn g b).holding b.1) in
    let inside : c.loop-i.i < length log.live = omega (arith, c.loop-i-test.true, c.live-i-end.ensures) in
    old_ends log.live c.loop-i.i c.in-Some.version (old_segments log) c.live_version.result inside c.live_version.ensures c.in-Some.is c.if-version-ne1.true
    c.loop-i.invariant

pub loop-i-preserved : goal.loop-i-preserved
loop-i-preserved g c =
    let log = seen c.args.log.now (λ b. (goal.Segment-dyn g b).holding b.1) in
    let inside : c.loop-i.i < length log.live = omega (arith, c.loop-i-test.true, c.live-i-end.ensures) in
    old_more log.live c.loop-i.i c.in-Some.version (old_segments log) c.live_version.result inside c.live_version.ensures c.in-Some.is c.if-version-ne1.false
    c.loop-i.invariant
