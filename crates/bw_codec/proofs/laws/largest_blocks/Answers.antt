use Rattle.bw_codec.proofs.Sizing as sizing
use Rattle.bw_codec.proofs.laws.largest_blocks.Goals as goal

pub returns : goal.returns
returns c = sizing.largest_blocks
