use Rattle.std.proofs.Common.{take}
use Rattle.std.specs.List.{flat_map}
use Rattle.bw_codec.specs.Grammar.{op_bytes}
use Rattle.bw_codec.specs.Writing.{Adds}
use Rattle.bw_codec.proofs.encoder.write_ops.Given as goal

abbrev pub invariant-loop-op : goal.invariant-loop-op
invariant-loop-op l = Adds l.initial.out l.out (flat_map op_bytes (take l.op-index l.ops))
