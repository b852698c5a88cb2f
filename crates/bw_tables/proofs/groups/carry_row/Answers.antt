use Rattle.bw_rows.specs.Spelling.{row_place}
use Rattle.bw_tables.specs.Writing.{named}
use Rattle.bw_tables.proofs.CallLaws.{carries_out}
use Rattle.bw_tables.proofs.groups.carry_row.Goals as goal

pub returns : goal.returns
returns c = record { carries = carries_out (row_place c.args.table.bytes c.args.key.now) c.args.aside (named c.args.old) c.aside_change.result c.aside_change.ensures }
