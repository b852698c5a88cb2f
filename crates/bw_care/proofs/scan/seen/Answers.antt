use Rattle.bw_care.proofs.FrontsRead.{unseen}
use Rattle.bw_care.proofs.scan.seen.Goals as goal

pub returns-clause-none : goal.returns-clause-none
returns-clause-none c = unseen c.args.version c.args.m c.args.f c.args.bytes.now c.check_frame.result c.ranges.m.fits
    (λ i. (c.type_inv.bytes i).fits) c.check_frame.ensures.only
