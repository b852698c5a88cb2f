use Rattle.std.proofs.Common.{refl, arith}
use Rattle.bw_device.specs.Boxes.{IsSpareOf}
use Rattle.bw_device.proofs.Boxed.{fails_at, goes_on_at, all_taken}
use Rattle.bw_device.proofs.boxes.are_spares.Goals as goal

pub returns-then-not-is_spare : goal.returns-then-not-is_spare
returns-then-not-is_spare g c =
    fails_at _ (IsSpareOf c.args.least) c.args.all.now c.loop-one.one-index c.one-item.result c.loop-one-test.true c.one-item.is c.if-not-is_spare.ensures.1

pub loop-one-preserved : goal.loop-one-preserved
loop-one-preserved g c =
    goes_on_at _ (IsSpareOf c.args.least) c.args.all.now c.loop-one.one-index c.one-item.result c.loop-one-test.true c.one-item.is c.loop-one.invariant
    (c.if-not-is_spare.ensures.0 refl)

pub returns : goal.returns
returns g c = (λ _. all_taken _ (IsSpareOf c.args.least) c.args.all.now c.loop-one.one-index (omega arith) c.loop-one.invariant, λ _. refl)
