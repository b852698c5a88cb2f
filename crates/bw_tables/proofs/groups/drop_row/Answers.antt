use Rattle.std.proofs.Common.{◌≡◌, length, rules}
use Rattle.bw_rows.specs.Spelling.{row_place}
use Rattle.bw_tables.specs.Writing.{named}
use Rattle.bw_tables.proofs.CallLaws.{drops_row, row_keeps_marks}
use Rattle.bw_tables.proofs.groups.drop_row.Goals as goal

pub returns : goal.returns
returns c =
    let wide : length c.args.table.bytes ≡ 2 = search rules in
    let place = row_place c.args.table.bytes c.args.key.now in
    record {
      drops = drops_row c.args.table.bytes c.args.key.now (named c.args.old) c.row_change.result wide c.row_change.ensures;
      marks = row_keeps_marks place (named c.args.old) c.row_change.result c.row_change.ensures;
    }
