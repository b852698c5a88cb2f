use Rattle.std.proofs.Common.{inr, Some, sym, ap, ◌∙◌}
use Rattle.bw_rows.specs.Spelling.{Bytes, aside_of}
use Rattle.bw_tables.specs.Writing.{named}
use Rattle.bw_calls.proofs.PlainLaws.{wrote}
use Rattle.bw_calls.proofs.BatchLaws.{carried, stands_moved, standing_by}
use Rattle.bw_calls.proofs.batching.carry.Goals as goal

pub returns-in_err-old-clause-stands : goal.returns-in_err-old-clause-stands
returns-in_err-old-clause-stands g c = λ tables stands there. stands_moved tables _ _ stands c.head_of.ensures.same

pub returns-in_err-old-clause-leaves : goal.returns-in_err-old-clause-leaves
returns-in_err-old-clause-leaves g c = λ tables stands there ts among stops. c.head_of.ensures.leaves ts stops

pub returns-clause-stands : goal.returns-clause-stands
returns-clause-stands g c = λ tables stands there.
    let parsed = ap aside_of (sym c.as_slice.ensures.value) ∙ c.in-Some.ensures ∙ ap (λ (k : Bytes). Some (c.in-Some.table.bytes, k)) (sym c.in-Ok.ensures.ok) in
    let done = carried tables _ _ c.args.key.now c.args.aside c.in-Some.table.bytes c.in-Ok.key (named c.in_ok-old.old) c.carry_row.result c.head_of.ensures.same stands there
    parsed c.carry_row.ensures.carries c.in_ok-old.ensures.head in
    standing_by tables _ _ _ (stands_moved tables _ _ stands c.head_of.ensures.same) done (wrote c.prepare.result _ _ _ c.prepare.ensures.changed c.prepare.ensures.refused)

pub returns-clause-leaves : goal.returns-clause-leaves
returns-clause-leaves g c = λ tables stands there ts among stops.
    let parsed = ap aside_of (sym c.as_slice.ensures.value) ∙ c.in-Some.ensures ∙ ap (λ (k : Bytes). Some (c.in-Some.table.bytes, k)) (sym c.in-Ok.ensures.ok) in
    let done = carried tables _ _ c.args.key.now c.args.aside c.in-Some.table.bytes c.in-Ok.key (named c.in_ok-old.old) c.carry_row.result c.head_of.ensures.same stands there
    parsed c.carry_row.ensures.carries c.in_ok-old.ensures.head in
    c.prepare.ensures.leaves ts (tables, among, inr done) (c.head_of.ensures.leaves ts stops)
