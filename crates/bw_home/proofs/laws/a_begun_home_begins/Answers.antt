use Rattle.bw_home.proofs.Beginning.{begins_as}
use Rattle.bw_home.proofs.laws.a_begun_home_begins.Goals as goal

pub returns : goal.returns
returns c = begins_as
