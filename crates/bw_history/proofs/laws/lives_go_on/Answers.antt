use Rattle.bw_history.proofs.Lives.{go_on}
use Rattle.bw_history.proofs.laws.lives_go_on.Goals as goal

pub returns : goal.returns
returns c = go_on
