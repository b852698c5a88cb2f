use Rattle.bw_history.proofs.Machines.{durable_stays}
use Rattle.bw_history.proofs.laws.what_is_durable_stays.Goals as goal

pub returns : goal.returns
returns c = durable_stays
