use Rattle.std.proofs.Common.{◌≡◌, ◌≤◌, ◌-◌, length, drop, List}
use Rattle.std.specs.List.{AllByRecursion}
use Rattle.std.specs.BTreeMap as tree
use Rattle.bw_record.specs.declared.leaf.Leaf.{Leaf}
use Rattle.bw_leaf.specs.Changed.{order}
use Rattle.bw_lines.specs.Paging.{IsLows, IsShortIf, Rise, first_wrong}
use Rattle.bw_found.proofs.pages.wrong_page.Given as goal

abbrev pub invariant-pages : goal.invariant-pages
invariant-pages l = record {
  within : l.at ≤ length l.pages;
  rises : Rise l.before (drop l.at l.pages);
  same : (set : List Leaf) → IsLows set (tree.get order l.lows) → AllByRecursion (λ e. IsShortIf e.1.leaf) l.pages
      → first_wrong l.m set l.before (drop l.at l.pages) ≡ first_wrong l.m set 0 l.pages;
}

abbrev pub decreases-pages : goal.decreases-pages
decreases-pages l = length l.pages - l.at
