use Rattle.bw_lines.proofs.FoundStand.{found_stands}
use Rattle.bw_care.proofs.laws.found_leaves_stand.Goals as goal

pub returns : goal.returns
returns c = λ m frames. found_stands m frames
