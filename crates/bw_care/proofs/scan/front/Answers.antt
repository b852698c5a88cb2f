use Rattle.bw_care.proofs.FrontsRead.{front_told}
use Rattle.bw_care.proofs.scan.front.Goals as goal

pub returns-clause-gives : goal.returns-clause-gives
returns-clause-gives c = front_told c.args.version c.args.m c.args.f c.args.bytes.now c.read_frame.result c.ranges.m.fits c.ranges.f.fits
    (λ i. (c.type_inv.bytes i).fits)
    c.read_frame.ensures.found c.read_frame.ensures.only
