use Rattle.std.proofs.Common.{◌≡◌, false, inr, rules}
use Rattle.std.specs.Prelude.{IfErr}
use Rattle.bw_calls.specs.Standing.{waits}
use Rattle.bw_calls.proofs.PlainLaws.{behind, err_map}
use Rattle.bw_calls.proofs.LeaveLaws.{in_its}
use Rattle.bw_calls.proofs.BatchLaws.{batch_before, batch_refused, gathered_all, stands_by, stands_now}
use Rattle.bw_calls.proofs.batching.batch_by_rows.Goals as goal

pub returns-in_err-clear_asides-clause-refused : goal.returns-in_err-clear_asides-clause-refused
returns-in_err-clear_asides-clause-refused g c = λ lawful.
    let before : IfErr c.from_residual.result (λ fault. waits fault ≡ false) = search rules in
    err_map c.from_residual.result (λ fault told. batch_before _ _ _ (waits fault) told (c.clear_asides.ensures.stays lawful)) before

pub returns-in_err-clear_asides-clause-leaves : goal.returns-in_err-clear_asides-clause-leaves
returns-in_err-clear_asides-clause-leaves g c = λ lawful ts was now stops. c.clear_asides.ensures.leaves lawful ts was stops

pub returns-in_err-gather-clause-refused : goal.returns-in_err-gather-clause-refused
returns-in_err-gather-clause-refused g c = λ lawful.
    let h = c.clear_asides.ensures.stays lawful in
    let before : IfErr c.from_residual-in_err-gather.result (λ fault. waits fault ≡ false) = search rules in
    err_map c.from_residual-in_err-gather.result (λ fault told. batch_before _ _ _ (waits fault) told (behind _ _ _ h (c.gather.ensures.stays h.lawful))) before

pub returns-in_err-gather-clause-leaves : goal.returns-in_err-gather-clause-leaves
returns-in_err-gather-clause-leaves g c = λ lawful ts was now stops.
    let h = c.clear_asides.ensures.stays lawful in
    c.gather.ensures.leaves h.lawful ts (in_its ts _ _ h was) (c.clear_asides.ensures.leaves lawful ts was stops)

pub returns-in-Ok-clause-made : goal.returns-in-Ok-clause-made
returns-in-Ok-clause-made g c = λ lawful.
    let h = c.clear_asides.ensures.stays lawful in
    let gathered = gathered_all _ _ _ c.args.changes.now h c.in_ok-clear_asides.ensures.none c.in_ok-gather.ensures.gathers in
    let stands = stands_by _ _ _ c.batch_step.result c.batch_step.ensures gathered in
    c.finish.ensures.left _ (stands_now _ _ _ stands c.in-Ok.ensures.changed)

pub returns-in-Ok-clause-leaves : goal.returns-in-Ok-clause-leaves
returns-in-Ok-clause-leaves g c = λ lawful ts was now stops.
    let h = c.clear_asides.ensures.stays lawful in
    let gathered = gathered_all _ _ _ c.args.changes.now h c.in_ok-clear_asides.ensures.none c.in_ok-gather.ensures.gathers in
    let stands = stands_by _ _ _ c.batch_step.result c.batch_step.ensures gathered in
    let set_aside = c.gather.ensures.leaves h.lawful ts (in_its ts _ _ h was) (c.clear_asides.ensures.leaves lawful ts was stops) in
    c.finish.ensures.leaves _ (stands_now _ _ _ stands c.in-Ok.ensures.changed) ts now (c.step.ensures.leaves ts (_, now, inr stands) set_aside)

pub returns-in-Err-clause-refused : goal.returns-in-Err-clause-refused
returns-in-Err-clause-refused g c = λ lawful.
    let h = c.clear_asides.ensures.stays lawful in
    let gathered = gathered_all _ _ _ c.args.changes.now h c.in_ok-clear_asides.ensures.none c.in_ok-gather.ensures.gathers in
    let stands = stands_by _ _ _ c.batch_step.result c.batch_step.ensures gathered in
    batch_refused _ _ _ _ _ (waits c.in-Err.fault) gathered.stays (inr stands) c.in-Err.ensures.refused

pub returns-in-Err-clause-leaves : goal.returns-in-Err-clause-leaves
returns-in-Err-clause-leaves g c = λ lawful ts was now stops.
    let h = c.clear_asides.ensures.stays lawful in
    let gathered = gathered_all _ _ _ c.args.changes.now h c.in_ok-clear_asides.ensures.none c.in_ok-gather.ensures.gathers in
    let stands = stands_by _ _ _ c.batch_step.result c.batch_step.ensures gathered in
    let set_aside = c.gather.ensures.leaves h.lawful ts (in_its ts _ _ h was) (c.clear_asides.ensures.leaves lawful ts was stops) in
    c.step.ensures.leaves ts (_, now, inr stands) set_aside
