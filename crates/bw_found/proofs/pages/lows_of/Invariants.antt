use Rattle.std.proofs.Common.{◌≤◌, length, drop}
use Rattle.std.specs.BTreeMap as tree
use Rattle.bw_leaf.specs.Changed.{order}
use Rattle.bw_lines.specs.Paging.{IsIndex}
use Rattle.bw_found.proofs.pages.lows_of.Given as goal

abbrev pub invariant-down : goal.invariant-down
invariant-down l = record {
  within : l.at ≤ length l.pages;
  index : IsIndex (drop l.at l.pages) (tree.get order l.lows);
}

abbrev pub decreases-down : goal.decreases-down
decreases-down l = l.at
