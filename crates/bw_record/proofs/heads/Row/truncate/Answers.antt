use Rattle.bw_record.proofs.HeadRows.{row_taken}
use Rattle.bw_record.proofs.heads.Row.truncate.Goals as goal

pub returns : goal.returns
returns c pairs is = rw c.truncate.ensures.items (row_taken _ _ pairs c.args.count is)
