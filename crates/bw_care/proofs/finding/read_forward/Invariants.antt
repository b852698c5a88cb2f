use Rattle.std.proofs.Common.{◌≡◌, ◌≤◌, ◌-◌, List, ◌++◌, length, drop, map}
use Rattle.bw_device.specs.Holding.{Holding}
use Rattle.bw_log.specs.Places.{all_placed}
use Rattle.bw_log.specs.Segments.{frames_of}
use Rattle.bw_care.specs.Forward.{AreReady}
use Rattle.bw_lines.specs.Reading.{IsRead}
use Rattle.bw_care.proofs.finding.read_forward.Given as goal

-- of the segments that are ready some were read, and the others stand at the positions that are left
abbrev pub invariant-segments : goal.invariant-segments
invariant-segments g l = record {
  within : l.next ≤ length l.places;
  same : map (λ b. (goal.Segment-dyn g (b.vtable, b.value)).holding b.value) l.boxes.items
      ≡ map (λ b. (goal.Segment-dyn g (b.vtable, b.value)).holding b.value) l.initial.boxes.items;
  seen : (hs : List Holding)
      → AreReady (map (λ b. (goal.Segment-dyn g (b.vtable, b.value)).holding b.value) l.initial.boxes.items) l.places hs
      → (seen : List Holding) × (rest : List Holding) × (seen ++ rest ≡ hs)
      × AreReady (map (λ b. (goal.Segment-dyn g (b.vtable, b.value)).holding b.value) l.initial.boxes.items) (drop l.next l.places) rest
      × IsRead l.first (all_placed (frames_of (map (λ h. h.bytes) seen))) l.lines;
}

abbrev pub decreases-segments : goal.decreases-segments
decreases-segments g l = length l.places - l.next
