use Rattle.std.proofs.Common.{◌≡◌}
use Rattle.bw_page.proofs.Counted.{total}
use Rattle.bw_core.proofs.LookingMore.{Stays}
use Rattle.bw_core.proofs.store.Core.count.Given as goal

abbrev pub invariant-pages : goal.invariant-pages
invariant-pages g l = record {
  stays : Stays l.initial.self l.self (λ z. (goal.Segment-dyn g z).holding z.1);
  so_far : l.pairs ≡ total l.initial.self.pages.leaves.leaves l.before;
}
