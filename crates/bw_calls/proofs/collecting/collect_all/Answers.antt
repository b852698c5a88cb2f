use Rattle.bw_calls.proofs.PlainLaws.{moved, behind}
use Rattle.bw_calls.proofs.LeaveLaws.{in_its}
use Rattle.bw_calls.proofs.NameLaws.{marks_moved, marks_then}
use Rattle.bw_calls.proofs.collecting.collect_all.Goals as goal

pub numbers-preserved : goal.numbers-preserved
numbers-preserved g c = (
  c.collect.ensures.ready,
  λ lawful.
      let h = moved _ _ _ (c.numbers.invariant.1 lawful) c.first_doomed.ensures.same in
      behind _ _ _ h (c.collect.ensures.stays h.lawful),
  λ lawful ts among stops.
      let h = moved _ _ _ (c.numbers.invariant.1 lawful) c.first_doomed.ensures.same in
      c.collect.ensures.leaves h.lawful ts (in_its ts _ _ h among) (c.first_doomed.ensures.leaves ts (c.numbers.invariant.2 lawful ts among stops)),
  marks_then _ _ _ (marks_then _ _ _ c.numbers.invariant.3 (marks_moved _ _ c.first_doomed.ensures.same)) c.collect.ensures.marks,
)

pub returns-in_err-number-clause-stays : goal.returns-in_err-number-clause-stays
returns-in_err-number-clause-stays g c = λ lawful. moved _ _ _ (c.numbers.invariant.1 lawful) c.first_doomed.ensures.same

pub returns-in_err-collect-in-Some-clause-stays : goal.returns-in_err-collect-in-Some-clause-stays
returns-in_err-collect-in-Some-clause-stays g c = λ lawful.
    let h = moved _ _ _ (c.numbers.invariant.1 lawful) c.first_doomed.ensures.same in
    behind _ _ _ h (c.collect.ensures.stays h.lawful)

pub returns-in-None-clause-stays : goal.returns-in-None-clause-stays
returns-in-None-clause-stays g c = λ lawful. moved _ _ _ (c.numbers.invariant.1 lawful) c.first_doomed.ensures.same

pub returns-in_err-number-clause-leaves : goal.returns-in_err-number-clause-leaves
returns-in_err-number-clause-leaves g c = λ lawful ts among stops. c.first_doomed.ensures.leaves ts (c.numbers.invariant.2 lawful ts among stops)

pub returns-in_err-collect-in-Some-clause-leaves : goal.returns-in_err-collect-in-Some-clause-leaves
returns-in_err-collect-in-Some-clause-leaves g c = λ lawful ts among stops.
    let h = moved _ _ _ (c.numbers.invariant.1 lawful) c.first_doomed.ensures.same in
    c.collect.ensures.leaves h.lawful ts (in_its ts _ _ h among) (c.first_doomed.ensures.leaves ts (c.numbers.invariant.2 lawful ts among stops))

pub returns-in-None-clause-leaves : goal.returns-in-None-clause-leaves
returns-in-None-clause-leaves g c = λ lawful ts among stops. c.first_doomed.ensures.leaves ts (c.numbers.invariant.2 lawful ts among stops)

pub returns-in-None-clause-marks : goal.returns-in-None-clause-marks
returns-in-None-clause-marks g c = marks_then _ _ _ c.numbers.invariant.3 (marks_moved _ _ c.first_doomed.ensures.same)
