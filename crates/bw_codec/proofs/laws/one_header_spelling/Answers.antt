use Rattle.bw_codec.proofs.Heading as heading
use Rattle.bw_codec.proofs.laws.one_header_spelling.Goals as goal

pub returns : goal.returns
returns c = heading.one_header_spelling
