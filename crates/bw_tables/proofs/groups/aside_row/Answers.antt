use Rattle.std.proofs.Common.{◌≡◌, [], ◌∷◌}
use Rattle.bw_record.specs.declared.record.Record.TheVariants.{Put}
use Rattle.bw_rows.specs.Spelling.{aside_key, row_place}
use Rattle.bw_tables.proofs.CallLaws.{sets_aside}
use Rattle.bw_tables.proofs.groups.aside_row.Goals as goal

pub returns : goal.returns
returns c =
    let is : c.one.result ≡ Put (aside_key (row_place c.args.table.bytes c.args.key.now)) c.args.row ∷ [] = rw (c.one.ensures, c.aside_key.ensures) in
    record { aside = sets_aside c.args.table.bytes c.args.key.now c.args.row c.one.result is; item = is }
