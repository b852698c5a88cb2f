use Rattle.bw_leaf.specs.Forwards.{kept_below}
use Rattle.bw_leaf.proofs.hollow_page.HollowDraft.keep_below.Given as goal

abbrev pub ghost-about : goal.ghost-about
ghost-about a = kept_below a.x.now.1.now a.x.now.0.now.value
