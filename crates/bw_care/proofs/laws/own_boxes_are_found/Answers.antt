use Rattle.bw_care.proofs.OwnFound.{own_boxes}
use Rattle.bw_care.proofs.laws.own_boxes_are_found.Goals as goal

pub returns : goal.returns
returns c = λ log leaves. own_boxes log leaves
