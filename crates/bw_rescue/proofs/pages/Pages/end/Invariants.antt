use Rattle.std.specs.Prelude.{◌≡◌, ◌≤◌, None, List, length}
use Rattle.std.specs.List.Sorted.{IsStrictlySortedBy}
use Rattle.std.specs.Map.{keys_of}
use Rattle.std.specs.Ordering.{nat_cmp}
use Rattle.bw_record.specs.declared.block.Block.{Block}
use Rattle.bw_leaf.specs.Forwards.{content}
use Rattle.bw_rescue.specs.Pages.{AreRead}
use Rattle.bw_rescue.proofs.PagesEnd.{Found, AreSoFar}
use Rattle.bw_rescue.proofs.pages.Pages.end.Given as goal

abbrev pub invariant-loop-page : goal.invariant-loop-page
invariant-loop-page l = record {
  sorted : IsStrictlySortedBy nat_cmp (keys_of l.page-iterator);
  there : Found l.fn.self.lines l.page-iterator;
  more : length l.fn.losses.items ≤ length l.losses.items;
  pages : (done : List Block) → AreRead done l.fn.self.lines → content 0 done ≡ None → length l.losses.items ≡ length l.fn.losses.items
      → AreSoFar done (length l.fn.self.lines.entries) l.page-iterator l.next l.leaves.items;
}
