use Rattle.std.proofs.Common.{◌≡◌, ◌++◌, length, reverse, map}
use Rattle.bw_lines.specs.Paging.{leaves_in, at_line}
use Rattle.bw_found.proofs.pages.take_apart.Given as goal

abbrev pub invariant-next : goal.invariant-next
invariant-next l = record {
  leaves : l.leaves.items ++ leaves_in (reverse l.pages.items) ≡ leaves_in (reverse l.initial.pages.items);
  table : l.table.items ++ map at_line (reverse l.pages.items) ≡ map at_line (reverse l.initial.pages.items);
}

abbrev pub decreases-next : goal.decreases-next
decreases-next l = length l.pages.items
