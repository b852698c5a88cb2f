use Rattle.std.proofs.Common.{inl, ◌≡◌, false, None, rules, sym, subst}
use Rattle.std.specs.Prelude.{IfErr}
use Rattle.bw_rows.specs.Meaning.{tables_of}
use Rattle.bw_rows.specs.Laws.{IsTables, with_table}
use Rattle.bw_home.specs.Maps.{maps_of}
use Rattle.bw_calls.specs.Standing.{waits}
use Rattle.bw_calls.proofs.PlainLaws.{plain_of, itself, moved, behind, left_before, left_by, err_map, number_told}
use Rattle.bw_calls.proofs.LeaveLaws.{in_its}
use Rattle.bw_calls.proofs.NameLaws.{unnamed}
use Rattle.bw_calls.proofs.naming.drop_table.Goals as goal

pub returns-in_err-table-clause-refused : goal.returns-in_err-table-clause-refused
returns-in_err-table-clause-refused g c = λ lawful.
    let before : IfErr c.from_residual.result (λ fault. waits fault ≡ false) = search rules in
    err_map c.from_residual.result (λ fault told. left_before _ _ _ (waits fault) told (moved _ _ _ (itself _ lawful) c.number_of.ensures.same)) before

pub returns-in_err-table-clause-leaves : goal.returns-in_err-table-clause-leaves
returns-in_err-table-clause-leaves g c = λ lawful ts was now stops. c.number_of.ensures.leaves ts stops

pub returns-in_default-clause-refused : goal.returns-in_default-clause-refused
returns-in_default-clause-refused g c = λ lawful. moved _ _ _ (itself _ lawful) c.number_of.ensures.same

pub returns-in_default-clause-leaves : goal.returns-in_default-clause-leaves
returns-in_default-clause-leaves g c = λ lawful ts was now stops. c.number_of.ensures.leaves ts stops

pub returns-in-Ok-clause-dropped : goal.returns-in-Ok-clause-dropped
returns-in-Ok-clause-dropped g c = λ lawful.
    let m = (maps_of c.args.home.now (λ z. (goal.Segment-dyn g z).holding z.1)).put in
    let told = number_told _ c.in-Some.table m c.args.name.now c.in-Some.is c.in_ok-table.ensures.number in
    let done = unnamed m _ c.args.name.now c.in-Some.table.bytes c.drop_step.result c.drop_step.ensures.step lawful c.number_of.ensures.same told in
    let there = subst (IsTables (with_table (tables_of (plain_of m)) c.args.name.now None)) (sym c.in-Ok.ensures.changed) done in
    behind _ _ _ there (c.clear.ensures.stays there.lawful)

pub returns-in-Ok-clause-leaves : goal.returns-in-Ok-clause-leaves
returns-in-Ok-clause-leaves g c = λ lawful ts was now stops.
    let m = (maps_of c.args.home.now (λ z. (goal.Segment-dyn g z).holding z.1)).put in
    let told = number_told _ c.in-Some.table m c.args.name.now c.in-Some.is c.in_ok-table.ensures.number in
    let done = unnamed m _ c.args.name.now c.in-Some.table.bytes c.drop_step.result c.drop_step.ensures.step lawful c.number_of.ensures.same told in
    let stepped = c.step.ensures.leaves ts (with_table (tables_of (plain_of m)) c.args.name.now None, now, inl done) (c.number_of.ensures.leaves ts stops) in
    let there = subst (IsTables (with_table (tables_of (plain_of m)) c.args.name.now None)) (sym c.in-Ok.ensures.changed) done in
    c.clear.ensures.leaves there.lawful ts (in_its ts _ _ there now) stepped

pub returns-in-Err-clause-refused : goal.returns-in-Err-clause-refused
returns-in-Err-clause-refused g c = λ lawful.
    let m = (maps_of c.args.home.now (λ z. (goal.Segment-dyn g z).holding z.1)).put in
    let told = number_told _ c.in-Some.table m c.args.name.now c.in-Some.is c.in_ok-table.ensures.number in
    let done = unnamed m _ c.args.name.now c.in-Some.table.bytes c.drop_step.result c.drop_step.ensures.step lawful c.number_of.ensures.same told in
    left_by _ _ _ _ _ (waits c.in-Err.fault) (moved _ _ _ (itself _ lawful) c.number_of.ensures.same) done c.in-Err.ensures.refused

pub returns-in-Err-clause-leaves : goal.returns-in-Err-clause-leaves
returns-in-Err-clause-leaves g c = λ lawful ts was now stops.
    let m = (maps_of c.args.home.now (λ z. (goal.Segment-dyn g z).holding z.1)).put in
    let told = number_told _ c.in-Some.table m c.args.name.now c.in-Some.is c.in_ok-table.ensures.number in
    let done = unnamed m _ c.args.name.now c.in-Some.table.bytes c.drop_step.result c.drop_step.ensures.step lawful c.number_of.ensures.same told in
    let stepped = c.step.ensures.leaves ts (with_table (tables_of (plain_of m)) c.args.name.now None, now, inl done) (c.number_of.ensures.leaves ts stops) in
    stepped
