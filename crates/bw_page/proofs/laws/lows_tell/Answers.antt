use Rattle.bw_page.proofs.LowsAlone.{tell}
use Rattle.bw_page.proofs.laws.lows_tell.Goals as goal

pub returns : goal.returns
returns c = tell
