use Rattle.bw_care.proofs.ShortenedBoxes.{stopped_boxes}
use Rattle.bw_care.proofs.laws.stopped_boxes_are_found.Goals as goal

pub returns : goal.returns
returns c = λ log. stopped_boxes log
