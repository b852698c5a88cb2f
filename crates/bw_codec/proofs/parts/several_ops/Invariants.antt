use Rattle.std.proofs.Common.{◌≡◌, ◌-◌}
use Rattle.bw_codec.specs.Reading.{many_at, op_at}
use Rattle.bw_codec.proofs.Many.{prefixed}
use Rattle.bw_codec.proofs.parts.several_ops.Given as goal

abbrev pub invariant-loop-i : goal.invariant-loop-i
invariant-loop-i l = prefixed l.items.items (many_at (op_at l.version) (l.count - l._i) l.rest) ≡ many_at (op_at l.version) l.count l.bytes
