use Rattle.bw_page.specs.Ahead.{HasGone, ahead}
use Rattle.bw_core.specs.Views.{kept_by}
use Rattle.bw_core.proofs.Walks.{map_of}
use Rattle.bw_core.proofs.LookingMore.{Stays}
use Rattle.bw_core.proofs.store.Core.scan.Given as goal

abbrev pub invariant-pages : goal.invariant-pages
invariant-pages g l = record {
  stays : Stays l.initial.self l.self (λ z. (goal.Segment-dyn g z).holding z.1);
  gone : HasGone (map_of (kept_by l.initial.self (λ z. (goal.Segment-dyn g z).holding z.1))) l.key l.from l.most l.found.items;
}

abbrev pub decreases-pages : goal.decreases-pages
decreases-pages g l = ahead l.from l.self.pages.leaves.leaves
