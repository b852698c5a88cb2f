use Rattle.bw_calls.proofs.BatchLaws.{gathers_none}
use Rattle.bw_calls.proofs.batching.set_none.Goals as goal

pub returns-clause-gathers : goal.returns-clause-gathers
returns-clause-gathers g c = gathers_none _ _ c.args.table.bytes c.args.key.now c.no_row.result c.put_aside.result c.no_row.ensures c.put_aside.ensures.gathers
