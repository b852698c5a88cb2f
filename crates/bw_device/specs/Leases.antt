-- What a contract sees of a `Lease`.
use Rattle.std.specs.Prelude.{ℕ}
use Rattle.bw_device.specs.declared.leases.Lease.{Lease}

-- the number that the lease is the right to
abbrev pub number_of : Lease → ℕ
number_of lease = lease.number
