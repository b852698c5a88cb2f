use Rattle.std.proofs.Common.{arith, length-append}
use Rattle.bw_record.specs.Version.{latest}
use Rattle.bw_codec.specs.Bytes.{text, value_bytes}
use Rattle.bw_codec.proofs.Lengths.{length-value}
use Rattle.bw_codec.proofs.encoder.push_put.Goals as goal

pub push_value-requires-clause-room : goal.push_value-requires-clause-room
push_value-requires-clause-room c =
    let tagged = c.push.ensures.len in
    let tagged_room = c.push.ensures.capacity in
    omega (arith, c.requires.room, length-value c.args.value.now, length-append (text c.args.key.now) (value_bytes latest c.args.value.now), tagged, tagged_room, c.push_text.ensures.len, c.push_text.ensures.capacity)
