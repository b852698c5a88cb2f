use Rattle.std.proofs.Common.{take}
use Rattle.std.specs.List.{flat_map}
use Rattle.std.specs.Io.KnownBytes.{Appends}
use Rattle.bw_pairs.specs.Json.{letter}
use Rattle.bw_pairs.proofs.json.write_letters.Given as goal

abbrev pub invariant-loop-byte : goal.invariant-loop-byte
invariant-loop-byte g l =
    Appends (g.O.Write.contents l.initial.output) (g.O.Write.contents l.output) (flat_map letter (take l.byte-index l.text))
