use Rattle.bw_codec.proofs.Checked.{seen_there, only_seen}
use Rattle.bw_codec.proofs.check.check_within.Goals as goal

pub returns-clause-found : goal.returns-clause-found
returns-clause-found c = seen_there c.args.version c.args.m c.args.limit c.args.bytes.now c.check_front.result c.ranges.m.fits
    (λ i. (c.type_inv.bytes i).fits) c.check_front.ensures.gives

pub returns-clause-only : goal.returns-clause-only
returns-clause-only c = only_seen c.args.version c.args.m c.args.limit c.args.bytes.now c.check_front.result c.ranges.m.fits c.ranges.limit.fits
    c.check_front.ensures.bad c.check_front.ensures.gives
