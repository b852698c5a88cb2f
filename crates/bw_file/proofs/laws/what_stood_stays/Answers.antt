use Rattle.bw_file.proofs.Standing.{what_stood}
use Rattle.bw_file.proofs.laws.what_stood_stays.Goals as goal

pub returns : goal.returns
returns c = what_stood
