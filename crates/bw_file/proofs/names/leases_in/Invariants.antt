use Rattle.std.proofs.Common.{◌<◌, All}
use Rattle.std.specs.List.Sorted.{IsStrictlyIncreasing}
use Rattle.bw_file.proofs.names.leases_in.Given as goal

-- those that were found ascend, below the lease that is looked at
abbrev pub invariant-loop-lease : goal.invariant-loop-lease
invariant-loop-lease g l = All (λ n. n < l.lease) l.leases.items × IsStrictlyIncreasing l.leases.items
