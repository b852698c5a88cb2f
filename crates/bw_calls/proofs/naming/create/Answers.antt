use Rattle.std.proofs.Common.{◌≡◌, false, rules}
use Rattle.std.specs.Prelude.{IfErr}
use Rattle.bw_home.specs.Maps.{maps_of}
use Rattle.bw_calls.specs.Standing.{waits}
use Rattle.bw_calls.proofs.PlainLaws.{itself, moved, lawful_moved, left_before, err_map}
use Rattle.bw_calls.proofs.LeaveLaws.{in_moved}
use Rattle.bw_calls.proofs.NameLaws.{created_moved, fresh_told, made_moved, refused_moved}
use Rattle.bw_calls.proofs.naming.create.Goals as goal

pub returns-in_err-number_of-clause-refused : goal.returns-in_err-number_of-clause-refused
returns-in_err-number_of-clause-refused g c = λ lawful.
    let before : IfErr c.from_residual.result (λ fault. waits fault ≡ false) = search rules in
    err_map c.from_residual.result (λ fault told. left_before _ _ _ (waits fault) told (moved _ _ _ (itself _ lawful) c.number_of.ensures.same)) before

pub returns-in_err-number_of-clause-leaves : goal.returns-in_err-number_of-clause-leaves
returns-in_err-number_of-clause-leaves g c = λ lawful ts was now stops. c.number_of.ensures.leaves ts stops

pub returns-in-Some-clause-refused : goal.returns-in-Some-clause-refused
returns-in-Some-clause-refused g c = λ lawful. moved _ _ _ (itself _ lawful) c.number_of.ensures.same

pub returns-in-Some-clause-leaves : goal.returns-in-Some-clause-leaves
returns-in-Some-clause-leaves g c = λ lawful ts was now stops. c.number_of.ensures.leaves ts stops

pub returns-in-None-clause-created : goal.returns-in-None-clause-created
returns-in-None-clause-created g c = λ lawful.
    let m = (maps_of c.args.home.now (λ z. (goal.Segment-dyn g z).holding z.1)).put in
    let fresh = fresh_told _ m _ c.args.name.now c.in-None.is c.in_ok-number_of.ensures.number c.number_of.ensures.same in
    created_moved m _ c.args.name.now c.create_new.result _ c.number_of.ensures.same (c.create_new.ensures.created (lawful_moved _ _ lawful c.number_of.ensures.same) fresh)

pub returns-in-None-clause-refused : goal.returns-in-None-clause-refused
returns-in-None-clause-refused g c = λ lawful.
    let m = (maps_of c.args.home.now (λ z. (goal.Segment-dyn g z).holding z.1)).put in
    let fresh = fresh_told _ m _ c.args.name.now c.in-None.is c.in_ok-number_of.ensures.number c.number_of.ensures.same in
    refused_moved m _ c.args.name.now c.create_new.result _ c.number_of.ensures.same (c.create_new.ensures.refused (lawful_moved _ _ lawful c.number_of.ensures.same) fresh)

pub returns-in-None-clause-leaves : goal.returns-in-None-clause-leaves
returns-in-None-clause-leaves g c = λ lawful ts was now stops.
    let m = (maps_of c.args.home.now (λ z. (goal.Segment-dyn g z).holding z.1)).put in
    let fresh = fresh_told _ m _ c.args.name.now c.in-None.is c.in_ok-number_of.ensures.number c.number_of.ensures.same in
    c.create_new.ensures.leaves (lawful_moved _ _ lawful c.number_of.ensures.same) fresh ts (in_moved ts _ _ c.number_of.ensures.same was)
    (made_moved ts m _ c.args.name.now c.number_of.ensures.same now) (c.number_of.ensures.leaves ts stops)
