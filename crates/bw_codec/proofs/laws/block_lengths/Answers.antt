use Rattle.bw_codec.proofs.Sizing as sizing
use Rattle.bw_codec.proofs.laws.block_lengths.Goals as goal

pub returns : goal.returns
returns c = sizing.block_lengths
