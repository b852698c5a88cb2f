use Rattle.std.proofs.Common.{◌≡◌, ◌≤◌, ◌*◌, length, take}
use Rattle.std.specs.List.{flat_map}
use Rattle.bw_codec.specs.Grammar.{op_bytes}
use Rattle.bw_codec.proofs.encoder.ops_length.Given as goal

abbrev pub invariant-loop-op : goal.invariant-loop-op
invariant-loop-op l = record { value : l.total ≡ length (flat_map op_bytes (take l.op-index l.ops)); small : l.total ≤ 644 * l.op-index }
