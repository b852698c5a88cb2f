use Rattle.bw_codec.proofs.Sizing as sizing
use Rattle.bw_codec.proofs.laws.largest_fit.Goals as goal

pub returns : goal.returns
returns c = sizing.largest_fit
