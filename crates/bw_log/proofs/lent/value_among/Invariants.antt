use Rattle.std.proofs.Common.{◌≡◌, ◌-◌}
use Rattle.bw_log.specs.Lent.{value_found}
use Rattle.bw_log.proofs.lent.value_among.Given as goal

abbrev pub invariant-loop-i : goal.invariant-loop-i
invariant-loop-i l = value_found l.version l.key (l.count - l._i) l.rest ≡ value_found l.version l.key l.count l.bytes
