use Rattle.bw_page.proofs.Ranges.{homes_are_ranges_lem}
use Rattle.bw_page.proofs.laws.homes_are_ranges.Goals as goal

pub returns : goal.returns
returns c = homes_are_ranges_lem
