use Rattle.std.proofs.Common.{◌≡◌, ◌≤◌, ◌+◌, ◌++◌, length}
use Rattle.bw_leaf.specs.Changed.{Pairs}
use Rattle.bw_page.specs.Leaves.{home}
use Rattle.bw_page.specs.Ahead.{ahead}
use Rattle.bw_keys.specs.Stretches.{stretch_on, wanted_of}
use Rattle.bw_keys.proofs.Stretches.{Gone}
use Rattle.bw_keys.proofs.pages.pages_over.Given as goal

abbrev pub invariant-loop : goal.invariant-loop
invariant-loop l = record {
  gone :
      (found : Pairs) × Gone l.span l.leaves.leaves l.key found
      × (stretch_on l.span l.leaves.leaves l.pages.items ≡ found ++ wanted_of l.span (home l.key l.leaves.leaves).pairs);
  left : ahead l.key l.leaves.leaves + l.counter ≤ length l.leaves.leaves;
  end : l.end ≡ length l.leaves.leaves;
}
