use Rattle.std.proofs.Common.{◌≡◌, length, map}
use Rattle.bw_care.specs.Planned.{AreRooms}
use Rattle.bw_care.proofs.steps.rooms_of.Given as goal

abbrev pub invariant-loop-at : goal.invariant-loop-at
invariant-loop-at g l = record {
  rooms : AreRooms (map (λ b. (goal.Segment-dyn g (b.vtable, b.value)).holding b.value) l.boxes) l.rooms.items;
  count : length l.rooms.items ≡ l.at;
}
