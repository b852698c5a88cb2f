use Rattle.std.proofs.Common.{arith, length-append}
use Rattle.bw_record.specs.Version.{latest}
use Rattle.bw_codec.specs.Bytes.{text, value_bytes}
use Rattle.bw_codec.proofs.Lengths.{length-value}
use Rattle.bw_codec.proofs.encoder.record_length.Goals as goal

pub returns-in-Put-clause-value : goal.returns-in-Put-clause-value
returns-in-Put-clause-value c =
    let key = c.in-Put.key in
    let value = c.in-Put.value in
    rw (c.as_slice.ensures.value, c.as_slice-in-Put.ensures.value, c.in-Put.is)
    (omega (arith, length-value value, length-append (text key) (value_bytes latest value)))
