use Rattle.bw_versions.proofs.Joined.{joined}
use Rattle.bw_versions.proofs.laws.batches_are_joined.Goals as goal

pub returns : goal.returns
returns c = joined
