use Rattle.bw_rows.proofs.WorkedBytes.{are_spelled, are_told}
use Rattle.bw_rows.proofs.laws.the_worked_bytes.Goals as goal

pub returns : goal.returns
returns c = record { spelled = are_spelled; told = are_told }
