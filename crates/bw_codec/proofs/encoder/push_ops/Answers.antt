use Rattle.std.proofs.Common.{arith, length, length-append}
use Rattle.std.specs.List.{flat_map}
use Rattle.bw_codec.specs.Bytes.{number_bytes}
use Rattle.bw_codec.specs.Grammar.{op_bytes}
use Rattle.bw_codec.proofs.FrontFormat.{length-number}
use Rattle.bw_codec.proofs.Adding.{room_after}
use Rattle.bw_codec.proofs.encoder.push_ops.Goals as goal

pub push_two-requires : goal.push_two-requires
push_two-requires c =
    omega (
      arith,
      c.requires.room,
      length-number 2 (length c.args.ops.now),
      length-append (number_bytes 2 (length c.args.ops.now)) (flat_map op_bytes c.args.ops.now),
    )

pub write_ops-requires : goal.write_ops-requires
write_ops-requires c =
    room_after c.args.out.now c.push_two.new.out (number_bytes 2 (length c.args.ops.now)) (flat_map op_bytes c.args.ops.now) c.requires.room
    c.push_two.ensures
