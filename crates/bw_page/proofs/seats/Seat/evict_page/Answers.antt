use Rattle.std.proofs.Common.{true, ap}
use Rattle.bw_page.specs.Seats.{Seated}
use Rattle.bw_page.proofs.seats.Seat.evict_page.Goals as goal

pub returns : goal.returns
returns c = ap (λ (s : Seated). let t : Seated = record { leaf = s.leaf; is_evicted = true } in t) c.self.view_is
