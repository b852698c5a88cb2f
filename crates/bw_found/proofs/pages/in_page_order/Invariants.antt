use Rattle.std.proofs.Common.{◌≡◌, ◌++◌, length}
use Rattle.bw_found.proofs.pages.in_page_order.Given as goal

abbrev pub invariant-next : goal.invariant-next
invariant-next l = l.pages.items ++ l.lines.entries ≡ l.initial.lines.entries

abbrev pub decreases-next : goal.decreases-next
decreases-next l = length l.lines.entries
