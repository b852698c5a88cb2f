use Rattle.std.proofs.Common.{length, refl}
use Rattle.bw_calls.proofs.PlainLaws.{behind}
use Rattle.bw_calls.proofs.LeaveLaws.{in_its}
use Rattle.bw_calls.proofs.BatchLaws.{gathers_long}
use Rattle.bw_calls.proofs.batching.set_long.Goals as goal

pub returns-in_err-number-clause-stays : goal.returns-in_err-number-clause-stays
returns-in_err-number-clause-stays g c = λ lawful. c.in_err-number.ensures.stays lawful

pub returns-in_err-number-clause-leaves : goal.returns-in_err-number-clause-leaves
returns-in_err-number-clause-leaves g c = λ lawful ts among stops. c.write.ensures.leaves lawful ts among stops

pub returns-clause-gathers : goal.returns-clause-gathers
returns-clause-gathers g c =
    gathers_long _ _ _ c.args.table.bytes c.args.key.now c.in_ok-number.number.bytes c.args.value.now c.row.result (length c.args.value.now) c.put_aside.result c.row.ensures.row c.row.ensures.names
    refl c.requires.long c.in_ok-number.ensures.first c.in_ok-number.ensures.others c.in_ok-number.ensures.rows c.in_ok-number.ensures.written c.put_aside.ensures.gathers

pub returns-clause-stays : goal.returns-clause-stays
returns-clause-stays g c = λ lawful.
    let h = (c.in_ok-number.ensures.written lawful).stays in
    behind _ _ _ h (c.put_aside.ensures.stays h.lawful)

pub returns-clause-leaves : goal.returns-clause-leaves
returns-clause-leaves g c = λ lawful ts among stops.
    let h = (c.in_ok-number.ensures.written lawful).stays in
    c.put_aside.ensures.leaves h.lawful ts (in_its ts _ _ h among) (c.write.ensures.leaves lawful ts among stops)
