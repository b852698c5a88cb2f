use Rattle.bw_care.proofs.OwnFound.{empty_boxes}
use Rattle.bw_care.proofs.laws.sorted_boxes_may_be_empty.Goals as goal

pub returns : goal.returns
returns c = λ l. empty_boxes l
