use Rattle.bw_pairs.proofs.WrittenLines.{written}
use Rattle.bw_pairs.proofs.laws.written_lines_are_read.Goals as goal

pub returns : goal.returns
returns c = written
