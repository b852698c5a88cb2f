use Rattle.std.proofs.Common.{inl}
use Rattle.bw_rows.specs.Spelling.{row_place}
use Rattle.bw_calls.proofs.BatchLaws.{aside_comes, gathered_by, stays_by}
use Rattle.bw_calls.proofs.batching.put_aside.Goals as goal

pub returns-clause-gathers : goal.returns-clause-gathers
returns-clause-gathers g c = gathered_by _ _ c.args.table.bytes c.args.key.now c.args.row c.aside_row.result c.prepare.result c.aside_row.ensures.aside c.prepare.ensures.changed

pub returns-clause-stays : goal.returns-clause-stays
returns-clause-stays g c = λ lawful.
    let done = aside_comes _ (row_place c.args.table.bytes c.args.key.now) c.args.row c.aside_row.result lawful c.aside_row.ensures.item in
    stays_by _ _ c.aside_row.result c.prepare.result lawful done c.prepare.ensures.changed c.prepare.ensures.refused

pub returns-clause-leaves : goal.returns-clause-leaves
returns-clause-leaves g c = λ lawful ts among stops.
    let done = aside_comes _ (row_place c.args.table.bytes c.args.key.now) c.args.row c.aside_row.result lawful c.aside_row.ensures.item in
    c.prepare.ensures.leaves ts (_, among, inl done) stops
