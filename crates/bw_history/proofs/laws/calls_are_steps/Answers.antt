use Rattle.bw_history.proofs.Lives.{calls}
use Rattle.bw_history.proofs.laws.calls_are_steps.Goals as goal

pub returns : goal.returns
returns c = calls
