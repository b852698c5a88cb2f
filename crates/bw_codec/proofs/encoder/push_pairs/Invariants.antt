use Rattle.std.proofs.Common.{take}
use Rattle.std.specs.List.{flat_map}
use Rattle.bw_codec.specs.Grammar.{pair_bytes}
use Rattle.bw_codec.specs.Writing.{Adds}
use Rattle.bw_codec.proofs.encoder.push_pairs.Given as goal

abbrev pub invariant-loop-pair : goal.invariant-loop-pair
invariant-loop-pair l = Adds l.initial.out l.out (flat_map pair_bytes (take l.pair-index l.pairs))
