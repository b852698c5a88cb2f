use Rattle.bw_page.proofs.Together.{homes_stay_lem}
use Rattle.bw_page.proofs.laws.homes_stay.Goals as goal

pub returns : goal.returns
returns c = homes_stay_lem
