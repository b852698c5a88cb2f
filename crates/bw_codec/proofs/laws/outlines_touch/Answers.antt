use Rattle.bw_codec.proofs.Stepping as stepping
use Rattle.bw_codec.proofs.laws.outlines_touch.Goals as goal

pub returns : goal.returns
returns c = stepping.outlines_touch
