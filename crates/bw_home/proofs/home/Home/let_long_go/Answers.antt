use Rattle.bw_home.proofs.Keeping.{keeps_then}
use Rattle.bw_home.proofs.home.Home.let_long_go.Goals as goal

pub returns-in_err-written : goal.returns-in_err-written
returns-in_err-written g c = keeps_then _ _ _ _ c.rewrite-written.ensures.keeps c.evict_all.ensures

pub returns : goal.returns
returns g c = keeps_then _ _ _ _ c.rewrite-written.ensures.keeps c.evict_all.ensures
