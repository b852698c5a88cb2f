use Rattle.std.proofs.Common.{take}
use Rattle.std.specs.Io.KnownBytes.{Appends}
use Rattle.hex.specs.Hex.{encode_lower}
use Rattle.bw_pairs.proofs.spelling.write_hex.Given as goal

abbrev pub invariant-loop-byte : goal.invariant-loop-byte
invariant-loop-byte g l =
    Appends (g.O.Write.contents l.initial.output) (g.O.Write.contents l.output) (encode_lower (take l.byte-index l.bytes))
