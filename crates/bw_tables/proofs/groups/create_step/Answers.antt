use Rattle.std.proofs.Common.{◌≡◌, [], ◌∷◌, ◌++◌, length, rules}
use Rattle.bw_record.specs.declared.record.Record.TheVariants.{Put}
use Rattle.bw_rows.specs.Spelling.{name_key, mark_key}
use Rattle.bw_tables.proofs.CallLaws.{makes_table}
use Rattle.bw_tables.proofs.groups.create_step.Goals as goal

pub returns : goal.returns
returns c =
    let wide : length c.args.table.bytes ≡ 2 = search rules in
    let is : c.add.new.group ≡ Put (name_key c.args.name.now) (c.args.table.bytes ++ 1 ∷ []) ∷ Put mark_key c.args.mark ∷ []
    = rw (c.add.ensures, c.one-group.ensures, c.name_key.ensures, c.table_row.ensures, c.mark_key.ensures) in
    record { step = makes_table c.args.name.now c.args.table.bytes c.args.mark c.add.new.group wide is }
