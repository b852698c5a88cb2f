use Rattle.std.proofs.Common.{◌≡◌, ◌+◌, ◌++◌, length, map, reverse}
use Rattle.bw_care.specs.Ordering.{lines_found}
use Rattle.bw_care.proofs.order.gather.Given as goal

abbrev pub invariant-next : goal.invariant-next
invariant-next l = record {
  count : l.segment + length l.live.items ≡ length l.initial.live.items;
  boxes : l.boxes.items ++ map (λ r. r.index) (reverse l.live.items) ≡ map (λ r. r.index) (reverse l.initial.live.items);
  versions : l.versions.items ++ map (λ r. r.header.version) (reverse l.live.items) ≡ map (λ r. r.header.version) (reverse l.initial.live.items);
  lines : l.lines.items ++ lines_found l.segment (reverse l.live.items) ≡ lines_found 0 (reverse l.initial.live.items);
}

abbrev pub decreases-next : goal.decreases-next
decreases-next l = length l.live.items
