use Rattle.bw_core.proofs.Relived.{go_on}
use Rattle.bw_core.proofs.laws.beginnings_go_on.Goals as goal

pub returns : goal.returns
returns c = go_on
