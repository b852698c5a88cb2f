use Rattle.std.proofs.Common.{◌≡◌, ◌+◌, length, reverse}
use Rattle.std.specs.List.{fold}
use Rattle.bw_care.specs.Recovery.{placed_by}
use Rattle.bw_care.specs.Ordering.{lives_from, number_found, sorted}
use Rattle.bw_care.proofs.order.in_number_order.Given as goal

abbrev pub invariant-next : goal.invariant-next
invariant-next l = record {
  count : l.index + length l.scans.items ≡ length l.initial.scans.items;
  live : fold (λ sofar x. placed_by number_found x sofar) l.live.items (lives_from l.index (reverse l.scans.items))
      ≡ sorted (reverse l.initial.scans.items);
}

abbrev pub decreases-next : goal.decreases-next
decreases-next l = length l.scans.items
