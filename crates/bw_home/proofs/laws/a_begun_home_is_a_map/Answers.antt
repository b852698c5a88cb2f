use Rattle.bw_home.proofs.Beginning.{is_a_map}
use Rattle.bw_home.proofs.laws.a_begun_home_is_a_map.Goals as goal

pub returns : goal.returns
returns c = is_a_map
