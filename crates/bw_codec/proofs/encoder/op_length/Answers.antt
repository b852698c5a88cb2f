use Rattle.std.proofs.Common.{arith, length-append}
use Rattle.bw_record.specs.Version.{latest}
use Rattle.bw_codec.specs.Bytes.{text, value_bytes}
use Rattle.bw_codec.proofs.Lengths.{length-value}
use Rattle.bw_codec.proofs.encoder.op_length.Goals as goal

pub returns-in-Ok-clause-value : goal.returns-in-Ok-clause-value
returns-in-Ok-clause-value c =
    let pair = c.in-Ok.pair.now in
    rw (c.key.ensures.value, c.value.ensures.value, c.in-Ok.ensures)
    (omega (arith, length-value pair.1, length-append (text pair.0) (value_bytes latest pair.1)))
