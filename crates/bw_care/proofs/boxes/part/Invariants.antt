use Rattle.std.proofs.Common.{◌≡◌, ◌≤◌, ◌+◌, map, drop, length, reverse, vec_len}
use Rattle.std.specs.Vec.{vec_capacity}
use Rattle.bw_care.specs.Parting.{parted}
use Rattle.bw_care.proofs.boxes.part.Given as goal

abbrev pub invariant-boxes : goal.invariant-boxes
invariant-boxes g l = record {
  rest : length l.boxes.items + l.at ≡ length l.kinds;
  live : vec_len l.live + length l.boxes.items ≤ vec_capacity l.live;
  spares : vec_len l.spares + length l.boxes.items ≤ vec_capacity l.spares;
  goes : parted (map (λ b. (goal.Segment-dyn g (b.vtable, b.value)).holding b.value) (reverse l.boxes.items)) (drop l.at l.kinds) (
    map (λ n. (n.number, (goal.Segment-dyn g (n.segment.vtable, n.segment.value)).holding n.segment.value)) l.live.items,
    map (λ b. (goal.Segment-dyn g (b.vtable, b.value)).holding b.value) l.spares.items,
  )
      ≡ parted (map (λ b. (goal.Segment-dyn g (b.vtable, b.value)).holding b.value) (reverse l.initial.boxes.items)) l.kinds (
        map (λ n. (n.number, (goal.Segment-dyn g (n.segment.vtable, n.segment.value)).holding n.segment.value)) l.initial.live.items,
        map (λ b. (goal.Segment-dyn g (b.vtable, b.value)).holding b.value) l.initial.spares.items,
      );
}

abbrev pub decreases-boxes : goal.decreases-boxes
decreases-boxes g l = length l.boxes.items
