use Rattle.std.proofs.Common.{arith}
use Rattle.bw_codec.proofs.FrontFormat.{length-number}
use Rattle.bw_codec.proofs.encoder.push_place.Goals as goal

pub push_four-requires : goal.push_four-requires
push_four-requires c = omega (arith, length-number 8 c.args.place.now.frame, c.push_eight.ensures.len, c.push_eight.ensures.capacity, c.requires)
