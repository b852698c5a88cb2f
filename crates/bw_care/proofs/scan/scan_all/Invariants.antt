use Rattle.std.proofs.Common.{◌≡◌, map, take}
use Rattle.bw_care.specs.Scanned.{AreScans}
use Rattle.bw_care.proofs.scan.scan_all.Given as goal

abbrev pub invariant-loop-at : goal.invariant-loop-at
invariant-loop-at g l = record {
  same : map (λ b. (goal.Segment-dyn g (b.vtable, b.value)).holding b.value) l.boxes.items
      ≡ map (λ b. (goal.Segment-dyn g (b.vtable, b.value)).holding b.value) l.initial.boxes.items;
  scans : AreScans (take l.at (map (λ b. (goal.Segment-dyn g (b.vtable, b.value)).holding b.value) l.initial.boxes.items)) l.scans.items;
}
