use Rattle.std.proofs.Common.{inl, ◌≡◌, false, refl, Some, rules}
use Rattle.std.specs.Prelude.{IfErr}
use Rattle.bw_tables.specs.Writing.{named}
use Rattle.bw_calls.specs.Standing.{plain_in, waits}
use Rattle.bw_calls.proofs.PlainLaws.{not_begun, not_set_at, set_at, set_behind, err_map}
use Rattle.bw_calls.proofs.LeaveLaws.{in_its}
use Rattle.bw_rows.specs.Meaning.{tables_of, with_value}
use Rattle.bw_calls.proofs.writing.put_short.Goals as goal

pub returns-in_err-old-clause-refused : goal.returns-in_err-old-clause-refused
returns-in_err-old-clause-refused g c = λ lawful.
    let before : IfErr c.from_residual.result (λ fault. waits fault ≡ false) = search rules in
    err_map c.from_residual.result (λ fault told. not_begun _ _ _ _ _ (waits fault) told lawful c.head_of.ensures.same) before

pub returns-in-Ok-clause-set : goal.returns-in-Ok-clause-set
returns-in-Ok-clause-set g c = λ lawful.
    let set = set_at _ _ _ c.args.table.bytes c.args.key.now (Some c.args.value.now) (named c.in_ok-old.old) c.short_step.result c.head_of.ensures.same lawful
    c.short_step.ensures.step c.in_ok-old.ensures.head c.in-Ok.ensures.changed in
    set_behind (plain_in c.args.home.now (λ z. (goal.Segment-dyn g z).holding z.1)) _ _ c.args.table.bytes c.args.key.now (Some c.args.value.now) set c.collect_old.ensures.stays

pub returns-in-Err-clause-refused : goal.returns-in-Err-clause-refused
returns-in-Err-clause-refused g c = λ lawful.
    not_set_at _ _ _ c.args.table.bytes c.args.key.now (Some c.args.value.now) (named c.in_ok-old.old) c.short_step.result (waits c.in-Err.fault) c.head_of.ensures.same lawful
    c.short_step.ensures.step c.in_ok-old.ensures.head c.in-Err.ensures.refused

pub returns-in_err-old-clause-leaves : goal.returns-in_err-old-clause-leaves
returns-in_err-old-clause-leaves g c = λ lawful name its ts was now stops. c.head_of.ensures.leaves ts stops

pub returns-in-Ok-clause-leaves : goal.returns-in-Ok-clause-leaves
returns-in-Ok-clause-leaves g c = λ lawful name its ts was now stops.
    let p = plain_in c.args.home.now (λ z. (goal.Segment-dyn g z).holding z.1) in
    let made = set_at _ _ _ c.args.table.bytes c.args.key.now (Some c.args.value.now) (named c.in_ok-old.old) c.short_step.result c.head_of.ensures.same lawful
    c.short_step.ensures.step c.in_ok-old.ensures.head refl name its in
    let stepped = c.step.ensures.leaves ts (with_value (tables_of p) name c.args.key.now (Some c.args.value.now), now, inl made) (c.head_of.ensures.leaves ts stops) in
    let set = set_at _ _ _ c.args.table.bytes c.args.key.now (Some c.args.value.now) (named c.in_ok-old.old) c.short_step.result c.head_of.ensures.same lawful
    c.short_step.ensures.step c.in_ok-old.ensures.head c.in-Ok.ensures.changed name its in
    c.collect_old.ensures.leaves set.lawful ts (in_its ts _ _ set now) stepped

pub returns-in-Err-clause-leaves : goal.returns-in-Err-clause-leaves
returns-in-Err-clause-leaves g c = λ lawful name its ts was now stops.
    let p = plain_in c.args.home.now (λ z. (goal.Segment-dyn g z).holding z.1) in
    let made = set_at _ _ _ c.args.table.bytes c.args.key.now (Some c.args.value.now) (named c.in_ok-old.old) c.short_step.result c.head_of.ensures.same lawful
    c.short_step.ensures.step c.in_ok-old.ensures.head refl name its in
    let stepped = c.step.ensures.leaves ts (with_value (tables_of p) name c.args.key.now (Some c.args.value.now), now, inl made) (c.head_of.ensures.leaves ts stops) in
    stepped
