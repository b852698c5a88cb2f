use Rattle.bw_page.proofs.Together.{together}
use Rattle.bw_page.proofs.laws.here_together.Goals as goal

pub returns : goal.returns
returns c = together
