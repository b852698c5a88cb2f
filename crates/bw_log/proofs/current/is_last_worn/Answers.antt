use Rattle.std.proofs.Common.{length, arith}
use Rattle.bw_log.proofs.Ends.{not_empty, worn_told}
use Rattle.bw_log.proofs.current.is_last_worn.Goals as goal

pub returns : goal.returns
returns g c =
    worn_told _ c.args.all.now c.failures_of.result (not_empty (length c.args.all.now) c.is_empty.result c.is_empty.ensures c.if-is_empty.false) (omega arith)
    c.failures_of.ensures
