use Rattle.bw_pairs.proofs.JsonLaws as laws
use Rattle.bw_pairs.proofs.laws.json_is_read_back.Goals as goal

pub returns : goal.returns
returns c = laws.json
