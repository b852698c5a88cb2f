use Rattle.std.proofs.Common.{◌≡◌, ◌-◌}
use Rattle.bw_codec.specs.Checking.{rising_after}
use Rattle.bw_codec.proofs.check.check_rising.Given as goal

abbrev pub invariant-loop-i : goal.invariant-loop-i
invariant-loop-i l = rising_after l.version (l.count - l._i) l.before l.rest ≡ rising_after l.version l.count l.key l.bytes
