use Rattle.bw_history.proofs.Lives.{lose_nothing}
use Rattle.bw_history.proofs.laws.lives_lose_nothing.Goals as goal

pub returns : goal.returns
returns c = lose_nothing
