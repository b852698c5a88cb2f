use Rattle.std.proofs.Common.{take}
use Rattle.bw_keys.specs.Stretches.{wanted_of}
use Rattle.bw_keys.specs.Listed.{Writes}
use Rattle.bw_keys.proofs.listing.Listing.up.Given as goal

abbrev pub invariant-loop-pair : goal.invariant-loop-pair
invariant-loop-pair g l =
    Writes l.self.order.style l.initial.due l.due (g.O.Write.contents l.initial.output) (g.O.Write.contents l.output)
    (wanted_of l.self.span.now (take l.pair-index l.pairs))
