use Rattle.std.proofs.Common.{take}
use Rattle.std.specs.List.{flat_map}
use Rattle.std.specs.Io.KnownBytes.{Appends}
use Rattle.bw_pairs.specs.Csv.{doubled}
use Rattle.bw_pairs.proofs.csv.write_within.Given as goal

abbrev pub invariant-loop-byte : goal.invariant-loop-byte
invariant-loop-byte g l =
    Appends (g.O.Write.contents l.initial.output) (g.O.Write.contents l.output) (flat_map doubled (take l.byte-index l.bytes))
