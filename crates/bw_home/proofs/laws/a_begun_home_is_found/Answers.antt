use Rattle.bw_home.proofs.Beginning.{is_found}
use Rattle.bw_home.proofs.laws.a_begun_home_is_found.Goals as goal

pub returns : goal.returns
returns c = is_found
