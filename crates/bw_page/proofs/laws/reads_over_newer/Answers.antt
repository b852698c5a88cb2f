use Rattle.bw_page.proofs.Twice.{over_newer}
use Rattle.bw_page.proofs.laws.reads_over_newer.Goals as goal

pub returns : goal.returns
returns c = over_newer
