use Rattle.bw_digest.proofs.Written.{no_alarm}
use Rattle.bw_digest.proofs.laws.no_false_alarm.Goals as goal

pub returns : goal.returns
returns c = no_alarm
