use Rattle.bw_lives.proofs.ManyLives.{lose_nothing}
use Rattle.bw_lives.proofs.laws.lives_lose_nothing.Goals as goal

pub returns : goal.returns
returns c = lose_nothing
