use Rattle.bw_history.proofs.Grouped.{records_packed}
use Rattle.bw_history.proofs.intake.Intake.packed.Goals as goal

pub returns-clause-records : goal.returns-clause-records
returns-clause-records c = records_packed c.pack.result _ _ c.args.group.now c.pack.ensures c.as_slice.ensures.value
