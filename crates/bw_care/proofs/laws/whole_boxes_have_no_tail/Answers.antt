use Rattle.bw_care.proofs.OwnFound.{whole_boxes}
use Rattle.bw_care.proofs.laws.whole_boxes_have_no_tail.Goals as goal

pub returns : goal.returns
returns c = λ log leaves. whole_boxes log leaves
