use Rattle.bw_calls.proofs.PlainLaws.{behind}
use Rattle.bw_calls.proofs.LeaveLaws.{in_its}
use Rattle.bw_calls.proofs.NameLaws.{marks_then}
use Rattle.bw_calls.proofs.naming.drop_at.Goals as goal

pub returns-clause-stays : goal.returns-clause-stays
returns-clause-stays g c = λ lawful none.
    let h = c.take_row.ensures.stays lawful none in
    behind _ _ _ h (c.collect_named.ensures.stays h.lawful)

pub returns-clause-marks : goal.returns-clause-marks
returns-clause-marks g c = marks_then _ _ _ c.take_row.ensures.marks c.collect_named.ensures.marks

pub returns-clause-leaves : goal.returns-clause-leaves
returns-clause-leaves g c = λ lawful none ts among stops.
    let h = c.take_row.ensures.stays lawful none in
    c.collect_named.ensures.leaves h.lawful ts (in_its ts _ _ h among) (c.take_row.ensures.leaves lawful none ts among stops)
