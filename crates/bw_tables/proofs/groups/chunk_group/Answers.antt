use Rattle.std.proofs.Common.{◌≡◌, ◌<◌, ◌^◌, List, [], ◌∷◌, ◌++◌, ◌∙◌, ap, ◌+◌, ◌-◌, length, rules, arith}
use Rattle.bw_record.specs.declared.record.Record.{Record}
use Rattle.bw_tables.specs.Writing.{chunk_records}
use Rattle.bw_tables.proofs.WritingLaws.{from_first}
use Rattle.bw_tables.proofs.CallLaws.{goes_on}
use Rattle.bw_tables.proofs.groups.chunk_group.Goals as goal

pub returns-clause-records : goal.returns-clause-records
returns-clause-records c =
    c.add_chunks.ensures
    ∙ ap (λ (l : List Record). l ++ chunk_records c.args.number.bytes c.args.value.now (c.args.from + 1) (c.args.to - (c.args.from + 1)))
    (c.one-group.ensures ∙ ap (λ (r : Record). r ∷ []) c.chunk_of.ensures)
    ∙ from_first c.args.number.bytes c.args.value.now c.args.from c.args.to (omega arith)

pub returns-clause-goes_on : goal.returns-clause-goes_on
returns-clause-goes_on c =
    let wide : length c.args.number.bytes ≡ 8 = search rules in
    let fits : c.args.to < 2 ^ 32 = search rules in
    let is : c.add_chunks.new.group ≡ chunk_records c.args.number.bytes c.args.value.now c.args.from (c.args.to - c.args.from)
    = c.add_chunks.ensures
    ∙ ap (λ (l : List Record). l ++ chunk_records c.args.number.bytes c.args.value.now (c.args.from + 1) (c.args.to - (c.args.from + 1)))
    (c.one-group.ensures ∙ ap (λ (r : Record). r ∷ []) c.chunk_of.ensures)
    ∙ from_first c.args.number.bytes c.args.value.now c.args.from c.args.to (omega arith) in
    goes_on c.args.number.bytes c.args.value.now c.args.from c.args.to c.add_chunks.new.group wide (omega arith) fits is
