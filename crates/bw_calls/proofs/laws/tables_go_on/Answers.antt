use Rattle.bw_calls.proofs.LeaveLaws.{went_on}
use Rattle.bw_calls.proofs.laws.tables_go_on.Goals as goal

pub returns : goal.returns
returns c = went_on
