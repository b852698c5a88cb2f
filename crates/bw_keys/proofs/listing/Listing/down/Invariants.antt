use Rattle.std.proofs.Common.{◌≡◌, ◌++◌, length, reverse}
use Rattle.bw_leaf.specs.Changed.{Pairs}
use Rattle.bw_keys.specs.Stretches.{wanted_of}
use Rattle.bw_keys.specs.Listed.{Writes}
use Rattle.bw_keys.proofs.listing.Listing.down.Given as goal

abbrev pub invariant-pairs : goal.invariant-pairs
invariant-pairs g l =
    (gone : Pairs) × (l.initial.rest ≡ l.rest ++ gone)
    × Writes l.self.order.style l.initial.due l.due (g.O.Write.contents l.initial.output) (g.O.Write.contents l.output)
    (reverse (wanted_of l.self.span.now gone))

abbrev pub decreases-pairs : goal.decreases-pairs
decreases-pairs g l = length l.rest
