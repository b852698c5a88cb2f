use Rattle.bw_care.proofs.SecondPass.{box_stops}
use Rattle.bw_care.proofs.finding.read_box_forward.Goals as goal

pub returns-in-Err-clause-stops : goal.returns-in-Err-clause-stops
returns-in-Err-clause-stops g c = λ h done rest there read.
    box_stops c.args.first done rest _ _ _ _ _ h _ c.in-Err.fault c.cause_of.result there c.in_ok-find_box.ensures.found c.in-Err.is
    c.in_ok-find_box.ensures.same read c.cause_of.ensures
