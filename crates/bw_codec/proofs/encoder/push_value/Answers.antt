use Rattle.std.proofs.Common.{length, arith}
use Rattle.bw_codec.proofs.FrontFormat.{length-number}
use Rattle.bw_codec.proofs.encoder.push_value.Goals as goal

pub push-requires : goal.push-requires
push-requires c =
    omega (arith, length-number 2 (length c.args.bytes.now), c.push_two.ensures.len, c.push_two.ensures.capacity, c.requires.room)
