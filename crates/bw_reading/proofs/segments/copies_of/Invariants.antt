use Rattle.std.proofs.Common.{◌≡◌, ◌++◌, ◌-◌, ◌*◌, map, drop}
use Rattle.bw_device.specs.Memory.{memory_holding}
use Rattle.bw_reading.specs.Handed.{boxes_from, boxes_in, AreWhole}
use Rattle.bw_reading.proofs.Handed.{flags}
use Rattle.bw_reading.proofs.segments.copies_of.Given as goal

abbrev pub invariant-loop-i : goal.invariant-loop-i
invariant-loop-i l = record {
  boxes : map memory_holding l.copies.items ++ boxes_from l.i (drop l.at l.bytes) (drop (2 * l.i) l.parts) ≡ boxes_in l.bytes l.parts;
  leases : l.desk ≡ flags l.i (l.count - l.i);
  whole : AreWhole (drop l.at l.bytes) (drop l.sums_at l.sums) (drop (2 * l.i) l.parts) → AreWhole l.bytes l.sums l.parts;
}
