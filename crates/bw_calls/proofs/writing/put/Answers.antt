use Rattle.std.proofs.Common.{◌≡◌, false, Some, rules}
use Rattle.std.specs.Prelude.{IfErr}
use Rattle.bw_home.specs.Maps.{maps_of}
use Rattle.bw_calls.specs.Standing.{waits}
use Rattle.bw_calls.proofs.PlainLaws.{itself, moved, lawful_moved, left_before, err_map, number_told}
use Rattle.bw_calls.proofs.CallLaws.{finished, refused}
use Rattle.bw_calls.proofs.LeaveLaws.{in_moved, number_moved, set_moved}
use Rattle.bw_calls.proofs.writing.put.Goals as goal

pub returns-in_err-table-clause-refused : goal.returns-in_err-table-clause-refused
returns-in_err-table-clause-refused g c = λ lawful.
    let before : IfErr c.from_residual.result (λ fault. waits fault ≡ false) = search rules in
    err_map c.from_residual.result (λ fault told. left_before _ _ _ (waits fault) told (moved _ _ _ (itself _ lawful) c.number_of.ensures.same)) before

pub returns-in-Some-clause-put : goal.returns-in-Some-clause-put
returns-in-Some-clause-put g c = λ lawful.
    let m = (maps_of c.args.home.now (λ z. (goal.Segment-dyn g z).holding z.1)).put in
    let told = number_told c.in_ok-table.field-0 c.in-Some.table m c.args.name.now c.in-Some.is c.in_ok-table.ensures.number in
    finished c.put_at.result m _ c.args.name.now c.in-Some.table.bytes c.args.key.now (Some c.args.value.now) _ c.number_of.ensures.same told
    (c.put_at.ensures.set (lawful_moved _ _ lawful c.number_of.ensures.same))

pub returns-in-Some-clause-refused : goal.returns-in-Some-clause-refused
returns-in-Some-clause-refused g c = λ lawful.
    let m = (maps_of c.args.home.now (λ z. (goal.Segment-dyn g z).holding z.1)).put in
    let told = number_told c.in_ok-table.field-0 c.in-Some.table m c.args.name.now c.in-Some.is c.in_ok-table.ensures.number in
    refused c.put_at.result m _ c.args.name.now c.in-Some.table.bytes c.args.key.now (Some c.args.value.now) _ c.number_of.ensures.same told
    (c.put_at.ensures.refused (lawful_moved _ _ lawful c.number_of.ensures.same))

pub returns-in-None-clause-refused : goal.returns-in-None-clause-refused
returns-in-None-clause-refused g c = λ lawful. moved _ _ _ (itself _ lawful) c.number_of.ensures.same

pub returns-in_err-table-clause-leaves : goal.returns-in_err-table-clause-leaves
returns-in_err-table-clause-leaves g c = λ lawful ts was now stops. c.number_of.ensures.leaves ts stops

pub returns-in-Some-clause-leaves : goal.returns-in-Some-clause-leaves
returns-in-Some-clause-leaves g c = λ lawful ts was now stops.
    let m = (maps_of c.args.home.now (λ z. (goal.Segment-dyn g z).holding z.1)).put in
    let told = number_told c.in_ok-table.field-0 c.in-Some.table m c.args.name.now c.in-Some.is c.in_ok-table.ensures.number in
    let same = c.number_of.ensures.same in
    c.put_at.ensures.leaves (lawful_moved _ _ lawful same) c.args.name.now (number_moved m _ c.args.name.now c.in-Some.table.bytes same told) ts
    (in_moved ts m _ same was) (set_moved ts m _ c.args.name.now c.args.key.now (Some c.args.value.now) same now) (c.number_of.ensures.leaves ts stops)

pub returns-in-None-clause-leaves : goal.returns-in-None-clause-leaves
returns-in-None-clause-leaves g c = λ lawful ts was now stops. c.number_of.ensures.leaves ts stops
