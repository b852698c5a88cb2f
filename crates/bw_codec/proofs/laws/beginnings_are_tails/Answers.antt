use Rattle.bw_codec.proofs.FrontFormat as front
use Rattle.bw_codec.proofs.laws.beginnings_are_tails.Goals as goal

pub returns : goal.returns
returns c = front.beginnings_are_tails
