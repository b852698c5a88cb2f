use Rattle.std.proofs.Common.{◌≡◌, false, inl, rules}
use Rattle.std.specs.Prelude.{IfErr}
use Rattle.bw_home.specs.Maps.{maps_of}
use Rattle.bw_calls.specs.Standing.{waits}
use Rattle.bw_calls.proofs.PlainLaws.{itself, moved, lawful_moved, err_map}
use Rattle.bw_calls.proofs.LeaveLaws.{in_moved}
use Rattle.bw_calls.proofs.BatchLaws.{batch_before}
use Rattle.bw_calls.proofs.SmallLaws.{group_moved, group_made, group_refused, made_moved, refused_moved, changes_moved}
use Rattle.bw_calls.proofs.batching.batch.Goals as goal

pub returns-in_err-check-clause-refused : goal.returns-in_err-check-clause-refused
returns-in_err-check-clause-refused g c = λ lawful.
    let before : IfErr c.from_residual.result (λ fault. waits fault ≡ false) = search rules in
    err_map c.from_residual.result (λ fault told. batch_before _ _ _ (waits fault) told (moved _ _ _ (itself _ lawful) c.check.ensures.same)) before

pub returns-in_err-check-clause-leaves : goal.returns-in_err-check-clause-leaves
returns-in_err-check-clause-leaves g c = λ lawful ts was now stops. c.check.ensures.leaves ts stops

pub returns-in_err-group-clause-refused : goal.returns-in_err-group-clause-refused
returns-in_err-group-clause-refused g c = λ lawful.
    let before : IfErr c.from_residual-in_err-group.result (λ fault. waits fault ≡ false) = search rules in
    let there = moved _ _ _ (moved _ _ _ (itself _ lawful) c.check.ensures.same) c.group_of.ensures.same in
    err_map c.from_residual-in_err-group.result (λ fault told. batch_before _ _ _ (waits fault) told there) before

pub returns-in_err-group-clause-leaves : goal.returns-in_err-group-clause-leaves
returns-in_err-group-clause-leaves g c = λ lawful ts was now stops. c.group_of.ensures.leaves ts (c.check.ensures.leaves ts stops)

pub returns-in-Some-clause-made : goal.returns-in-Some-clause-made
returns-in-Some-clause-made g c = λ lawful.
    let m = (maps_of c.args.home.now (λ z. (goal.Segment-dyn g z).holding z.1)).put in
    let up = group_moved m _ _ c.args.changes.now c.in-Some.group _ c.check.ensures.same c.group_of.ensures.same c.in-Some.is (c.in_ok-group.ensures.group (lawful_moved _ _ lawful c.check.ensures.same)) in
    group_made _ _ _ c.step.result up c.step.ensures.changed

pub returns-in-Some-clause-refused : goal.returns-in-Some-clause-refused
returns-in-Some-clause-refused g c = λ lawful.
    let m = (maps_of c.args.home.now (λ z. (goal.Segment-dyn g z).holding z.1)).put in
    let up = group_moved m _ _ c.args.changes.now c.in-Some.group _ c.check.ensures.same c.group_of.ensures.same c.in-Some.is (c.in_ok-group.ensures.group (lawful_moved _ _ lawful c.check.ensures.same)) in
    let there = moved _ _ _ (moved _ _ _ (itself _ lawful) c.check.ensures.same) c.group_of.ensures.same in
    group_refused _ _ _ _ _ c.step.result there up c.step.ensures.refused

pub returns-in-Some-clause-leaves : goal.returns-in-Some-clause-leaves
returns-in-Some-clause-leaves g c = λ lawful ts was now stops.
    let m = (maps_of c.args.home.now (λ z. (goal.Segment-dyn g z).holding z.1)).put in
    let up = group_moved m _ _ c.args.changes.now c.in-Some.group _ c.check.ensures.same c.group_of.ensures.same c.in-Some.is (c.in_ok-group.ensures.group (lawful_moved _ _ lawful c.check.ensures.same)) in
    c.step.ensures.leaves ts (_, now, inl up) (c.group_of.ensures.leaves ts (c.check.ensures.leaves ts stops))

pub returns-in-None-clause-made : goal.returns-in-None-clause-made
returns-in-None-clause-made g c = λ lawful.
    let m = (maps_of c.args.home.now (λ z. (goal.Segment-dyn g z).holding z.1)).put in
    made_moved m _ _ c.args.changes.now c.batch_by_rows.result _ c.check.ensures.same c.group_of.ensures.same
    (c.batch_by_rows.ensures.made (lawful_moved _ _ (lawful_moved _ _ lawful c.check.ensures.same) c.group_of.ensures.same))

pub returns-in-None-clause-refused : goal.returns-in-None-clause-refused
returns-in-None-clause-refused g c = λ lawful.
    let m = (maps_of c.args.home.now (λ z. (goal.Segment-dyn g z).holding z.1)).put in
    refused_moved m _ _ c.args.changes.now c.batch_by_rows.result _ c.check.ensures.same c.group_of.ensures.same
    (c.batch_by_rows.ensures.refused (lawful_moved _ _ (lawful_moved _ _ lawful c.check.ensures.same) c.group_of.ensures.same))

pub returns-in-None-clause-leaves : goal.returns-in-None-clause-leaves
returns-in-None-clause-leaves g c = λ lawful ts was now stops.
    let m = (maps_of c.args.home.now (λ z. (goal.Segment-dyn g z).holding z.1)).put in
    c.batch_by_rows.ensures.leaves (lawful_moved _ _ (lawful_moved _ _ lawful c.check.ensures.same) c.group_of.ensures.same) ts
    (in_moved ts _ _ c.group_of.ensures.same (in_moved ts m _ c.check.ensures.same was)) (changes_moved ts m _ _ c.args.changes.now c.check.ensures.same c.group_of.ensures.same now)
    (c.group_of.ensures.leaves ts (c.check.ensures.leaves ts stops))
