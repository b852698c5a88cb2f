use Rattle.std.proofs.Common.{◌≡◌}
use Rattle.bw_page.proofs.seats.Seats.next_to_leave.Given as goal

abbrev pub invariant-loop : goal.invariant-loop
invariant-loop l = l.self ≡ l.fn.self
