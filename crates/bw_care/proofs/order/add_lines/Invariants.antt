use Rattle.std.proofs.Common.{◌≡◌, ◌++◌, length, map, reverse}
use Rattle.bw_care.specs.Ordering.{moved_to}
use Rattle.bw_care.proofs.order.add_lines.Given as goal

abbrev pub invariant-more : goal.invariant-more
invariant-more l =
    l.lines.items ++ map (moved_to l.segment) (reverse l.more.items) ≡ l.initial.lines.items ++ map (moved_to l.segment) (reverse l.initial.more.items)

abbrev pub decreases-more : goal.decreases-more
decreases-more l = length l.more.items
