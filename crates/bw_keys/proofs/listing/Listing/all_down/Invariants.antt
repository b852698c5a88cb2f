use Rattle.std.proofs.Common.{◌≡◌, ◌++◌, ℕ, List, length, reverse}
use Rattle.bw_care.specs.Found.{IsRecovered}
use Rattle.bw_keys.specs.Stretches.{stretch_on}
use Rattle.bw_keys.specs.Listed.{Writes}
use Rattle.bw_keys.proofs.listing.Listing.all_down.Given as goal

abbrev pub invariant-pages : goal.invariant-pages
invariant-pages g l = record {
  recovered : IsRecovered (λ b. (goal.Segment-dyn g (b.vtable, b.value)).holding b.value) l.pages;
  leaves : l.pages.leaves.leaves ≡ l.initial.pages.leaves.leaves;
  written :
      (gone : List ℕ) × (l.numbers ≡ l.rest ++ gone)
      × Writes l.self.order.style l.initial.due l.due (g.O.Write.contents l.initial.output) (g.O.Write.contents l.output)
      (reverse (stretch_on l.self.span.now l.initial.pages.leaves.leaves gone));
}

abbrev pub decreases-pages : goal.decreases-pages
decreases-pages g l = length l.rest
