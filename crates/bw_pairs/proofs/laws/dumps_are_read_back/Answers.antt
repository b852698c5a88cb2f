use Rattle.bw_pairs.proofs.DumpLaws as laws
use Rattle.bw_pairs.proofs.laws.dumps_are_read_back.Goals as goal

pub returns : goal.returns
returns c = laws.dumps
