use Rattle.std.proofs.Common.{◌≡◌, take, []}
use Rattle.bw_page.proofs.index.copy_seats.Given as goal

abbrev pub invariant-loop-at : goal.invariant-loop-at
invariant-loop-at l = (l.copy.items ≡ take l.at l.leaves.items) × (l.copy.evicted ≡ [])
