-- Seats as they stand in memory. Page n stands at index n - 1.

use Rattle.std.specs.Prelude.{ℕ, ◌+◌, ◌-◌, ◌≡◌, List, [], ◌∷◌, map, not, is_some, IfSome, IfNone, length, if◌then◌else◌}
use Rattle.std.specs.Vec.{vec_len, vec_capacity}
use Rattle.bw_codec.specs.Grammar.{block_bytes}
use Rattle.bw_record.specs.declared.leaf.Leaf.{Leaf}
use Rattle.bw_record.specs.declared.block.Block.TheVariants.{Base}
use Rattle.bw_page.specs.declared.seats.Seat.TheInside.{Inside as SeatInside}
use Rattle.bw_page.specs.declared.seats.Seats.TheInside.{Inside as SeatsInside}
use Rattle.bw_page.specs.Seats.{Seated, Seating}

abbrev pub seat_view : SeatInside → Seated
seat_view a = record { leaf = a.was.value; is_evicted = not (is_some a.leaf) }

-- a leaf in memory is the one known, and of one that is evicted it is known how long its Base is
abbrev pub IsSeat : SeatInside → Type 0
IsSeat a = IfSome a.leaf (λ l. l ≡ a.was.value) × IfNone a.leaf (a.len ≡ length (block_bytes (Base a.was.value)))

abbrev pub leaves_of : List Seated → List Leaf
leaves_of seats = map (λ s. s.leaf) seats

-- the pages that are evicted, of seats from page n on
abbrev pub evicted_from : ℕ → List Seated → List ℕ
evicted_from n [] = []
evicted_from n (s ∷ ss) = if s.is_evicted then n ∷ evicted_from (n + 1) ss else evicted_from (n + 1) ss

abbrev pub seats_view : SeatsInside → Seating
seats_view a = record { items = leaves_of a.seats.items; evicted = evicted_from 1 a.seats.items; room = vec_capacity a.seats - vec_len a.seats }
