use Rattle.std.proofs.Common.{◌≡◌, ◌-◌}
use Rattle.bw_found.specs.Lent.{ops_into}
use Rattle.bw_found.proofs.lent.change_each.Given as goal

abbrev pub invariant-loop-i : goal.invariant-loop-i
invariant-loop-i l = ops_into l.version l.draft (l.count - l._i) l.rest ≡ ops_into l.version l.initial.draft l.count l.bytes
