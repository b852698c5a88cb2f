use Rattle.bw_care.proofs.FrontsRead.{known_front}
use Rattle.bw_care.proofs.finding.known.Goals as goal

pub returns : goal.returns
returns c = known_front c.args.version c.args.m c.args.f c.args.bytes.now c.find_frame.result c.ranges.m.fits
    (λ i. (c.type_inv.bytes i).fits) c.requires c.find_frame.ensures
