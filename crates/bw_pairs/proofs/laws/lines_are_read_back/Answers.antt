use Rattle.bw_pairs.proofs.LineLaws as lines
use Rattle.bw_pairs.proofs.laws.lines_are_read_back.Goals as goal

pub returns : goal.returns
returns c = record { words = lines.words; raw = lines.raw }
