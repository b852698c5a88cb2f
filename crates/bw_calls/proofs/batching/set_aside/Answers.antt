use Rattle.bw_home.specs.Maps.{maps_of}
use Rattle.bw_calls.proofs.PlainLaws.{itself, moved, lawful_moved, number_told, tables_from}
use Rattle.bw_calls.proofs.LeaveLaws.{in_moved}
use Rattle.bw_calls.proofs.BatchLaws.{one_aside}
use Rattle.bw_calls.proofs.batching.set_aside.Goals as goal

pub returns-in_err-table-clause-stays : goal.returns-in_err-table-clause-stays
returns-in_err-table-clause-stays g c = λ lawful. moved _ _ _ (itself _ lawful) c.number_of.ensures.same

pub returns-in_err-table-clause-leaves : goal.returns-in_err-table-clause-leaves
returns-in_err-table-clause-leaves g c = λ lawful ts among stops. c.number_of.ensures.leaves ts stops

pub returns-in-Some-clause-gathers : goal.returns-in-Some-clause-gathers
returns-in-Some-clause-gathers g c =
    let m = (maps_of c.args.home.now (λ z. (goal.Segment-dyn g z).holding z.1)).put in
    let told = number_told c.in_ok-table.field-0 c.in-Some.table m c.args.change.now.table c.in-Some.is c.in_ok-table.ensures.number in
    one_aside m _ _ c.in-Some.table.bytes c.args.change.now c.set_at.result c.number_of.ensures.same told c.set_at.ensures.gathers

pub returns-in-Some-clause-stays : goal.returns-in-Some-clause-stays
returns-in-Some-clause-stays g c = λ lawful.
    tables_from _ _ _ c.number_of.ensures.same (c.set_at.ensures.stays (lawful_moved _ _ lawful c.number_of.ensures.same))

pub returns-in-Some-clause-leaves : goal.returns-in-Some-clause-leaves
returns-in-Some-clause-leaves g c = λ lawful ts among stops.
    c.set_at.ensures.leaves (lawful_moved _ _ lawful c.number_of.ensures.same) ts (in_moved ts _ _ c.number_of.ensures.same among) (c.number_of.ensures.leaves ts stops)

pub returns-in-None-clause-stays : goal.returns-in-None-clause-stays
returns-in-None-clause-stays g c = λ lawful. moved _ _ _ (itself _ lawful) c.number_of.ensures.same

pub returns-in-None-clause-leaves : goal.returns-in-None-clause-leaves
returns-in-None-clause-leaves g c = λ lawful ts among stops. c.number_of.ensures.leaves ts stops
