use Rattle.bw_page.proofs.OneStanding.{one}
use Rattle.bw_page.proofs.laws.stands_as_one.Goals as goal

pub returns : goal.returns
returns c = one
