use Rattle.bw_calls.proofs.LeaveLaws.{stopped}
use Rattle.bw_calls.proofs.laws.a_stop_leaves_tables.Goals as goal

pub returns : goal.returns
returns c = stopped
