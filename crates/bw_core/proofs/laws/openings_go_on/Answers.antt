use Rattle.bw_core.proofs.Relived.{opens_anew}
use Rattle.bw_core.proofs.laws.openings_go_on.Goals as goal

pub returns : goal.returns
returns c = opens_anew
