use Rattle.std.proofs.Common.{◌≤◌, length}
use Rattle.bw_page.specs.Leaves.{leaf_at}
use Rattle.bw_walks.specs.Back.{HasComeBack, behind_leaf}
use Rattle.bw_core.specs.Views.{kept_by}
use Rattle.bw_core.proofs.Walks.{map_of}
use Rattle.bw_core.proofs.LookingMore.{Stays}
use Rattle.bw_core.proofs.store.Core.walk_back.Given as goal

abbrev pub invariant-pages : goal.invariant-pages
invariant-pages g l = record {
  stays : Stays l.initial.self l.self (λ z. (goal.Segment-dyn g z).holding z.1);
  inside : (1 ≤ l.page) × (l.page ≤ length l.self.pages.leaves.leaves);
  come : HasComeBack (map_of (kept_by l.initial.self (λ z. (goal.Segment-dyn g z).holding z.1))) l.initial.self.pages.leaves.leaves l.reach l.key l.page;
}

abbrev pub decreases-pages : goal.decreases-pages
decreases-pages g l = behind_leaf (leaf_at l.page l.self.pages.leaves.leaves) l.self.pages.leaves.leaves
