use Rattle.std.proofs.Common.{◌≡◌, ◌-◌}
use Rattle.bw_found.specs.Lent.{pairs_into}
use Rattle.bw_found.proofs.lent.push_each.Given as goal

abbrev pub invariant-loop-i : goal.invariant-loop-i
invariant-loop-i l = pairs_into l.version l.page (l.count - l._i) l.rest ≡ pairs_into l.version l.initial.page l.count l.bytes
