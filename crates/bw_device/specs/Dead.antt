-- What a contract sees of a `DeadSegment`.
use Rattle.std.specs.Prelude.{ℕ}
use Rattle.bw_device.specs.Holding.{Holding}
use Rattle.bw_device.specs.Memory.{memory_holding}
use Rattle.bw_device.specs.declared.dead.DeadSegment.{DeadSegment}

-- how many appends and reads pass before all fail
abbrev pub passes_left : DeadSegment → ℕ
passes_left s = s.passes

-- how many bytes of its piece an append keeps that fails
abbrev pub kept_bytes : DeadSegment → ℕ
kept_bytes s = s.keep

-- what it holds, and how many calls have failed, by its count
abbrev pub dead_holding : DeadSegment → Holding
dead_holding s = record (memory_holding s.inner) { failed = s.failures }
