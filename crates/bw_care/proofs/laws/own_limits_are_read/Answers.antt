use Rattle.bw_care.proofs.OwnLimits.{own_limits}
use Rattle.bw_care.proofs.laws.own_limits_are_read.Goals as goal

pub returns : goal.returns
returns c = own_limits
