use Rattle.bw_history.proofs.Machines.{stops_leave_beginnings}
use Rattle.bw_history.proofs.laws.a_stop_leaves_a_beginning.Goals as goal

pub returns : goal.returns
returns c = stops_leave_beginnings
