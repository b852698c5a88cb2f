use Rattle.std.proofs.Common.{[], ◌∷◌, ◌++◌}
use Rattle.bw_leaf.proofs.hollow_page.HollowPage.push.Given as goal

abbrev pub ghost-about : goal.ghost-about
ghost-about a = record a.x.now.was.now.value { pairs = a.x.now.was.now.value.pairs ++ (a.x.now.key.now, a.x.now.value.now) ∷ [] }
