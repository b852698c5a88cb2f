use Rattle.std.proofs.Common.{◌≡◌, drop}
use Rattle.bw_care.specs.Recovery.{limit_of}
use Rattle.bw_care.proofs.order.limit_of.Given as goal

abbrev pub invariant-loop-header : goal.invariant-loop-header
invariant-loop-header l = limit_of (drop l.header-index l.headers) ≡ limit_of l.headers
