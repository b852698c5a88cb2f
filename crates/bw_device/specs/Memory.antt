-- What a contract sees of a `MemSegment`.
use Rattle.std.specs.Prelude.{ℕ, List}
use Rattle.bw_device.specs.Holding.{Holding}
use Rattle.bw_device.specs.Leases.{number_of}
use Rattle.bw_device.specs.declared.memory.MemSegment.{MemSegment}

-- what a new segment holds, of which no call has failed
abbrev pub fresh_holding : ℕ → ℕ → List ℕ → Holding
fresh_holding lease room bytes = record { bytes = bytes; room = room; lease = lease; failed = 0 }

-- what it holds, of which no call ever fails
abbrev pub memory_holding : MemSegment → Holding
memory_holding s = fresh_holding (number_of s.lease) s.capacity s.bytes.items
