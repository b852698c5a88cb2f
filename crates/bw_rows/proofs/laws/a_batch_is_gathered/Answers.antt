use Rattle.bw_rows.proofs.GatherLaws.{nothing_law, fresh_aside_law, number_law, gathered_law}
use Rattle.bw_rows.proofs.laws.a_batch_is_gathered.Goals as goal

pub returns : goal.returns
returns c = record { nothing = nothing_law; fresh = fresh_aside_law; number = number_law; aside = gathered_law }
