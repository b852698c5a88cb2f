use Rattle.bw_leaf.proofs.hollow_page.HollowPage.empty.Given as goal
use Rattle.std.proofs.Common.{[]}

abbrev pub ghost-about : goal.ghost-about
ghost-about a = record { page = a.x.now.0; low = a.x.now.1.now; pairs = [] }
