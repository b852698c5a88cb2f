use Rattle.bw_calls.proofs.BatchLaws.{gathers_short}
use Rattle.bw_calls.proofs.batching.set_short.Goals as goal

pub returns-clause-gathers : goal.returns-clause-gathers
returns-clause-gathers g c = gathers_short _ _ c.args.table.bytes c.args.key.now c.args.value.now c.whole.result c.put_aside.result c.whole.ensures c.put_aside.ensures.gathers
