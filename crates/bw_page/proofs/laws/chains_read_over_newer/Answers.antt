use Rattle.bw_page.proofs.NewerPages.{chains_over_newer}
use Rattle.bw_page.proofs.laws.chains_read_over_newer.Goals as goal

pub returns : goal.returns
returns c = chains_over_newer
