use Rattle.bw_tables.specs.Writing.{named}
use Rattle.bw_tables.proofs.CallLaws.{makes_none}
use Rattle.bw_tables.proofs.groups.delete_step.Goals as goal

pub returns : goal.returns
returns c = record { step = makes_none c.args.table.bytes c.args.key.now (named c.args.old) c.row_change.result c.row_change.ensures }
