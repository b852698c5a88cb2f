use Rattle.bw_tables.proofs.WritingLaws.{taking_law, chunks_law, step_law}
use Rattle.bw_tables.proofs.laws.a_put_is_one_step.Goals as goal

pub returns : goal.returns
returns c = record { taking = taking_law; chunks = chunks_law; step = step_law }
