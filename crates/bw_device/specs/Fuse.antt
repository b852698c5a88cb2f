-- What a contract sees of a `FuseSegment`.
use Rattle.std.specs.Prelude.{ℕ, ◌-◌, ◌==◌, Option, Some, None, if◌then◌else◌}
use Rattle.bw_device.specs.Holding.{Holding}
use Rattle.bw_device.specs.Memory.{memory_holding}
use Rattle.bw_device.specs.declared.fuse.FuseSegment.{FuseSegment}

-- how many appends and reads pass before the one that fails, or None once that one has failed
abbrev pub passes_left : FuseSegment → Option ℕ
passes_left s = s.passes

-- how many bytes of its piece an append keeps that fails
abbrev pub kept_bytes : FuseSegment → ℕ
kept_bytes s = s.keep

-- how many calls have failed
abbrev pub failures_of : Option ℕ → ℕ
failures_of (Some n) = 0
failures_of None = 1

-- what it holds
abbrev pub fuse_holding : FuseSegment → Holding
fuse_holding s = record (memory_holding s.inner) { failed = failures_of s.passes }

-- how many are left after one more append or read
abbrev pub after_call : Option ℕ → Option ℕ
after_call (Some n) = if n == 0 then None else Some (n - 1)
after_call None = None
