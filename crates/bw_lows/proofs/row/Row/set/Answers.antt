use Rattle.bw_lows.proofs.HeadBounds.{row_set}
use Rattle.bw_lows.proofs.row.Row.set.Goals as goal

pub returns-in-Some : goal.returns-in-Some
returns-in-Some c lows low within its is = row_set _ _ lows c.args.at low c.in-Some.head is (rw c.in-Some.is at its)
