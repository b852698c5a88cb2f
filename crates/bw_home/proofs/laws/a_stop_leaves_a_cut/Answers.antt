use Rattle.bw_home.proofs.Cuts.{begin_put, left_among}
use Rattle.bw_home.proofs.laws.a_stop_leaves_a_cut.Goals as goal

pub returns : goal.returns
returns c = λ feeds s left is machine may. left_among s _ left machine (begin_put feeds s.entries is.one is.heard) may
