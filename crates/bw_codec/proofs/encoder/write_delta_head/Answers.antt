use Rattle.std.proofs.Common.{arith, length-append}
use Rattle.bw_codec.specs.Bytes.{number_bytes}
use Rattle.bw_codec.proofs.FrontFormat.{length-number}
use Rattle.bw_codec.proofs.encoder.write_delta_head.Goals as goal

pub push_place-requires : goal.push_place-requires
push_place-requires c =
    omega (
      arith,
      c.requires,
      length-number 4 c.args.page,
      c.push.ensures.len,
      c.push.ensures.capacity,
      c.push_four.ensures.len,
      c.push_four.ensures.capacity,
    )

pub push_two-requires : goal.push_two-requires
push_two-requires c =
    omega (
      arith,
      c.requires,
      length-number 4 c.args.page,
      length-number 8 c.args.back.now.frame,
      length-number 4 c.args.back.now.index,
      length-append (number_bytes 8 c.args.back.now.frame) (number_bytes 4 c.args.back.now.index),
      c.push.ensures.len,
      c.push.ensures.capacity,
      c.push_four.ensures.len,
      c.push_four.ensures.capacity,
      c.push_place.ensures.len,
      c.push_place.ensures.capacity,
    )
