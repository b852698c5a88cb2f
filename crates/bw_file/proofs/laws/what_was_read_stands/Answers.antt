use Rattle.bw_file.proofs.Standing.{what_was_read}
use Rattle.bw_file.proofs.laws.what_was_read_stands.Goals as goal

pub returns : goal.returns
returns c = what_was_read
