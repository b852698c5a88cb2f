use Rattle.std.proofs.Common.{arith, length-append}
use Rattle.bw_record.specs.Version.{latest}
use Rattle.bw_codec.specs.Bytes.{text, value_bytes}
use Rattle.bw_codec.proofs.Lengths.{length-value}
use Rattle.bw_codec.proofs.encoder.push_pair.Goals as goal

pub push_value-requires-clause-room : goal.push_value-requires-clause-room
push_value-requires-clause-room c =
    let value = c.args.pair.now.1 in
    let key = c.args.pair.now.0 in
    let first = rw c.key.ensures.value at c.push_text.ensures.len in
    let grown = c.push_text.ensures.capacity in
    rw c.value.ensures.value (omega (arith, c.requires, length-value value, length-append (text key) (value_bytes latest value), first, grown))
