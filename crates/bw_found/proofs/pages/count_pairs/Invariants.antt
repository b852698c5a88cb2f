use Rattle.std.proofs.Common.{◌≡◌}
use Rattle.bw_page.proofs.Counted.{total}
use Rattle.bw_found.proofs.pages.count_pairs.Given as goal

abbrev pub invariant-loop-page : goal.invariant-loop-page
invariant-loop-page l = l.pairs ≡ total l.pages l.page-index
