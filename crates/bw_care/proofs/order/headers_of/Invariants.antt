use Rattle.std.proofs.Common.{◌≡◌, ◌++◌, drop}
use Rattle.bw_care.specs.Ordering.{headers_of}
use Rattle.bw_care.proofs.order.headers_of.Given as goal

abbrev pub invariant-loop-scan : goal.invariant-loop-scan
invariant-loop-scan l = l.headers.items ++ headers_of (drop l.scan-index l.scans) ≡ headers_of l.scans
