use Rattle.bw_page.proofs.Twice.{twice}
use Rattle.bw_page.proofs.laws.twice_is_once.Goals as goal

pub returns : goal.returns
returns c = twice
