use Rattle.bw_codec.proofs.Versions as versions
use Rattle.bw_codec.proofs.laws.old_may_be_written.Goals as goal

pub returns : goal.returns
returns c = versions.old_may_be_written
