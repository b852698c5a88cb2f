use Rattle.bw_codec.proofs.Versions as versions
use Rattle.bw_codec.proofs.laws.no_frame_of_both.Goals as goal

pub returns : goal.returns
returns c = versions.no_frame_of_both
