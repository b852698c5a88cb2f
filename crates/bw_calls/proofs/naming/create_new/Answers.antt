use Rattle.std.proofs.Common.{inl, ◌≡◌, false, Some, refl, rules}
use Rattle.std.specs.Prelude.{IfErr}
use Rattle.bw_rows.specs.Meaning.{tables_of}
use Rattle.bw_rows.specs.Laws.{empty_table, with_table}
use Rattle.bw_home.specs.Maps.{maps_of}
use Rattle.bw_calls.specs.Standing.{waits}
use Rattle.bw_calls.proofs.PlainLaws.{plain_of, itself, moved, left_before, left_by, err_map}
use Rattle.bw_calls.proofs.NameLaws.{made, on_ok}
use Rattle.bw_calls.proofs.naming.create_new.Goals as goal

pub returns-in_err-table-clause-refused : goal.returns-in_err-table-clause-refused
returns-in_err-table-clause-refused g c = λ lawful fresh.
    let before : IfErr c.from_residual.result (λ fault. waits fault ≡ false) = search rules in
    err_map c.from_residual.result (λ fault told. left_before _ _ _ (waits fault) told (moved _ _ _ (itself _ lawful) c.free_number.ensures.same)) before

pub returns-in_err-table-clause-leaves : goal.returns-in_err-table-clause-leaves
returns-in_err-table-clause-leaves g c = λ lawful fresh ts was now stops. c.free_number.ensures.leaves ts stops

pub returns-clause-created : goal.returns-clause-created
returns-clause-created g c = λ lawful fresh.
    let m = (maps_of c.args.home.now (λ z. (goal.Segment-dyn g z).holding z.1)).put in
    let done = made m m _ c.args.name.now c.in_ok-table.table.bytes c.create_step.result c.create_step.ensures.step lawful fresh refl
    c.free_number.ensures.same c.in_ok-table.ensures.free in
    on_ok _ c.step.result _ _ done c.step.ensures.changed

pub returns-clause-refused : goal.returns-clause-refused
returns-clause-refused g c = λ lawful fresh.
    let m = (maps_of c.args.home.now (λ z. (goal.Segment-dyn g z).holding z.1)).put in
    let done = made m m _ c.args.name.now c.in_ok-table.table.bytes c.create_step.result c.create_step.ensures.step lawful fresh refl
    c.free_number.ensures.same c.in_ok-table.ensures.free in
    err_map c.step.result (λ fault told. left_by _ _ _ _ _ (waits fault) (moved _ _ _ (itself _ lawful) c.free_number.ensures.same) done told) c.step.ensures.refused

pub returns-clause-leaves : goal.returns-clause-leaves
returns-clause-leaves g c = λ lawful fresh ts was now stops.
    let m = (maps_of c.args.home.now (λ z. (goal.Segment-dyn g z).holding z.1)).put in
    let done = made m m _ c.args.name.now c.in_ok-table.table.bytes c.create_step.result c.create_step.ensures.step lawful fresh refl
    c.free_number.ensures.same c.in_ok-table.ensures.free in
    c.step.ensures.leaves ts (with_table (tables_of (plain_of m)) c.args.name.now (Some empty_table), now, inl done) (c.free_number.ensures.leaves ts stops)
