use Rattle.std.proofs.Common.{◌≡◌, length}
use Rattle.std.specs.List.{AllByRecursion}
use Rattle.bw_codec.specs.Grammar.{IsBase}
use Rattle.bw_page.specs.Seats.{numbers_from}
use Rattle.bw_page.proofs.seats.Seats.away.Given as goal

abbrev pub invariant-loop-page : goal.invariant-loop-page
invariant-loop-page l =
    (l.seats.items ≡ l.yielded) × (l.seats.evicted ≡ numbers_from 1 (length l.yielded)) × AllByRecursion (IsBase 32) l.page-iterator.rest.items
