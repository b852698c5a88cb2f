use Rattle.std.proofs.Common.{◌≡◌, ◌≤◌, ◌+◌, ◌++◌, map, length, reverse, vec_len}
use Rattle.std.specs.Vec.{vec_capacity}
use Rattle.bw_care.proofs.steps.boxes_of.Given as goal

abbrev pub invariant-boxes : goal.invariant-boxes
invariant-boxes g l = record {
  room : vec_len l.live + length l.numbered.items ≤ vec_capacity l.live;
  goes : map (λ b. (goal.Segment-dyn g (b.vtable, b.value)).holding b.value) l.live.items
      ++ map (λ n. (goal.Segment-dyn g (n.segment.vtable, n.segment.value)).holding n.segment.value) (reverse l.numbered.items)
      ≡ map (λ n. (goal.Segment-dyn g (n.segment.vtable, n.segment.value)).holding n.segment.value) (reverse l.initial.numbered.items);
}

abbrev pub decreases-boxes : goal.decreases-boxes
decreases-boxes g l = length l.numbered.items
