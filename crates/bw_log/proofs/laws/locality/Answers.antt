use Rattle.bw_log.proofs.Walk.{locality_lem}
use Rattle.bw_log.proofs.laws.locality.Goals as goal

pub returns : goal.returns
returns c = locality_lem
