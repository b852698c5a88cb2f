use Rattle.bw_care.proofs.OwnFound.{sorted_boxes}
use Rattle.bw_care.proofs.laws.sorted_boxes_are_found.Goals as goal

pub returns : goal.returns
returns c = λ l. sorted_boxes l
