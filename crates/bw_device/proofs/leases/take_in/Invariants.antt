use Rattle.std.proofs.Common.{◌≡◌, ◌+◌, map, is_some}
use Rattle.bw_device.specs.Slots.{out_count, OnlyFrees}
use Rattle.bw_device.proofs.leases.take_in.Given as goal

abbrev pub invariant-loop-i : goal.invariant-loop-i
invariant-loop-i l = (out_count (map is_some l.slots) + l.freed ≡ out_count (map is_some l.initial.slots))
    × OnlyFrees (map is_some l.initial.slots) (map is_some l.slots)
