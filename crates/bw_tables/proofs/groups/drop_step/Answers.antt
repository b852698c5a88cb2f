use Rattle.std.proofs.Common.{◌≡◌, [], ◌∷◌}
use Rattle.bw_record.specs.declared.record.Record.TheVariants.{Put, Del}
use Rattle.bw_rows.specs.Spelling.{name_key, gone_key}
use Rattle.bw_tables.proofs.CallLaws.{drops_table}
use Rattle.bw_tables.proofs.groups.drop_step.Goals as goal

pub returns : goal.returns
returns c =
    let is : c.add.new.group ≡ Del (name_key c.args.name.now) ∷ Put (gone_key c.args.table.bytes) [] ∷ []
    = rw (c.add.ensures, c.one-group.ensures, c.name_key.ensures, c.gone_key.ensures, c.nothing.ensures) in
    record { step = drops_table c.args.name.now c.args.table.bytes c.add.new.group is }
