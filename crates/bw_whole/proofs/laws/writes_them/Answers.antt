use Rattle.bw_whole.proofs.Made as made
use Rattle.bw_whole.proofs.laws.writes_them.Goals as goal

pub returns : goal.returns
returns c = made.writes_them
