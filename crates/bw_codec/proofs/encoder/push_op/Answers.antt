use Rattle.std.proofs.Common.{length, arith, subst, length-append}
use Rattle.bw_record.specs.Version.{latest}
use Rattle.bw_codec.specs.Bytes.{text, value_bytes}
use Rattle.bw_codec.specs.Grammar.{op_bytes}
use Rattle.bw_codec.specs.Writing.{HasRoom}
use Rattle.bw_record.specs.declared.record.Record.{Record}
use Rattle.bw_codec.proofs.Lengths.{length-value}
use Rattle.bw_codec.proofs.encoder.push_op.Goals as goal

pub push_put-requires-clause-room : goal.push_put-requires-clause-room
push_put-requires-clause-room c =
    let pair = c.in-Ok.pair.now in
    let room = subst (λ (o : Record). HasRoom c.args.out.now (length (op_bytes o))) c.in-Ok.ensures c.requires in
    rw (c.key.ensures.value, c.value.ensures.value)
    (omega (arith, room, length-value pair.1, length-append (text pair.0) (value_bytes latest pair.1)))
