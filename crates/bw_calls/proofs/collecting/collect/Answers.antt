use Rattle.bw_calls.proofs.PlainLaws.{itself, moved, behind, doomed_by}
use Rattle.bw_calls.proofs.LeaveLaws.{in_moved}
use Rattle.bw_calls.proofs.NameLaws.{marks_moved, marks_then}
use Rattle.bw_calls.proofs.collecting.collect.Goals as goal

pub returns-in_err-get-clause-stays : goal.returns-in_err-get-clause-stays
returns-in_err-get-clause-stays g c = λ lawful. moved _ _ _ (itself _ lawful) c.get.ensures.same

pub returns-in-Some-clause-stays : goal.returns-in-Some-clause-stays
returns-in-Some-clause-stays g c = λ lawful.
    let h = moved _ _ _ (itself _ lawful) c.get.ensures.same in
    let doomed = doomed_by _ _ c.args.number.bytes c.doomed_key.result c.in-Some.field-0 c.in_ok-get.field-0 c.in-Some.is c.in_ok-get.ensures.value c.doomed_key.ensures c.get.ensures.same in
    behind _ _ _ h (c.collect_doomed.ensures.stays h.lawful doomed)

pub returns-in-None-clause-stays : goal.returns-in-None-clause-stays
returns-in-None-clause-stays g c = λ lawful. moved _ _ _ (itself _ lawful) c.get.ensures.same

pub returns-in_err-get-clause-leaves : goal.returns-in_err-get-clause-leaves
returns-in_err-get-clause-leaves g c = λ lawful ts among stops. c.get.ensures.leaves ts stops

pub returns-in-Some-clause-leaves : goal.returns-in-Some-clause-leaves
returns-in-Some-clause-leaves g c = λ lawful ts among stops.
    let h = moved _ _ _ (itself _ lawful) c.get.ensures.same in
    let doomed = doomed_by _ _ c.args.number.bytes c.doomed_key.result c.in-Some.field-0 c.in_ok-get.field-0 c.in-Some.is c.in_ok-get.ensures.value c.doomed_key.ensures c.get.ensures.same in
    c.collect_doomed.ensures.leaves h.lawful doomed ts (in_moved ts _ _ c.get.ensures.same among) (c.get.ensures.leaves ts stops)

pub returns-in-None-clause-leaves : goal.returns-in-None-clause-leaves
returns-in-None-clause-leaves g c = λ lawful ts among stops. c.get.ensures.leaves ts stops

pub returns-in_err-get-clause-marks : goal.returns-in_err-get-clause-marks
returns-in_err-get-clause-marks g c = marks_moved _ _ c.get.ensures.same

pub returns-in-Some-clause-marks : goal.returns-in-Some-clause-marks
returns-in-Some-clause-marks g c = marks_then _ _ _ (marks_moved _ _ c.get.ensures.same) c.collect_doomed.ensures.marks

pub returns-in-None-clause-marks : goal.returns-in-None-clause-marks
returns-in-None-clause-marks g c = marks_moved _ _ c.get.ensures.same
