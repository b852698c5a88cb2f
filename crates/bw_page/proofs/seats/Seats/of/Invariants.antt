use Rattle.std.proofs.Common.{◌≡◌, []}
use Rattle.bw_page.proofs.seats.Seats.of.Given as goal

abbrev pub invariant-loop-leaf : goal.invariant-loop-leaf
invariant-loop-leaf l = (l.seats.items ≡ l.yielded) × (l.seats.evicted ≡ [])
