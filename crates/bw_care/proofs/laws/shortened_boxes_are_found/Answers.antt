use Rattle.bw_care.proofs.ShortenedBoxes.{shortened_boxes}
use Rattle.bw_care.proofs.laws.shortened_boxes_are_found.Goals as goal

pub returns : goal.returns
returns c = λ log. shortened_boxes log
