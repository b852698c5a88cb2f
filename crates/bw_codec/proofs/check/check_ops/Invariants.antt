use Rattle.std.proofs.Common.{◌≡◌, ◌-◌}
use Rattle.bw_codec.specs.Reading.{op_at}
use Rattle.bw_codec.specs.Skipping.{many_after}
use Rattle.bw_codec.specs.Checking.{past}
use Rattle.bw_codec.proofs.check.check_ops.Given as goal

abbrev pub invariant-loop-i : goal.invariant-loop-i
invariant-loop-i l = many_after (λ b. past (op_at l.version b)) (l.count - l._i) l.rest ≡ many_after (λ b. past (op_at l.version b)) l.count l.bytes
