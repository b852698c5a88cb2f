use Rattle.bw_codec.proofs.FrontFormat.{found_there, only_there}
use Rattle.bw_codec.proofs.decoder.read_within.Goals as goal

pub returns : goal.returns
returns c = record {
  found = found_there c.args.version c.args.m c.args.limit c.args.bytes.now c.front_of.result c.ranges.m.fits (λ i. (c.type_inv.bytes i).fits)
      c.front_of.ensures;
  only = only_there c.args.version c.args.m c.args.limit c.args.bytes.now c.front_of.result c.ranges.m.fits c.ranges.limit.fits c.front_of.ensures;
}
