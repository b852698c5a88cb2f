use Rattle.bw_codec.proofs.FrontFormat as front
use Rattle.bw_codec.proofs.laws.one_spelling.Goals as goal

pub returns : goal.returns
returns c = front.one_spelling
