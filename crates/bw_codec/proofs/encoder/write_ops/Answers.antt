use Rattle.bw_codec.specs.Grammar.{op_bytes}
use Rattle.bw_codec.proofs.Adding.{room_for_next}
use Rattle.bw_codec.proofs.encoder.write_ops.Goals as goal

pub push_op-requires : goal.push_op-requires
push_op-requires c =
    room_for_next op_bytes c.args.out.now c.loop-op.out c.args.ops.now c.loop-op.op-index c.op-item.result c.loop-op-test.true c.op-item.is c.requires
    c.loop-op.invariant
