use Rattle.bw_lows.specs.Packing.{eight_bytes}
use Rattle.bw_lows.proofs.entry.bytes_of.Goals as goal

pub returns : goal.returns
unfolding eight_bytes
returns c = c.to_be_bytes.ensures
