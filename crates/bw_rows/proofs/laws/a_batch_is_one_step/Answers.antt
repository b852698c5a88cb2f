use Rattle.bw_rows.proofs.BatchLaws.{aside_law, mark_law, carry_law, end_law}
use Rattle.bw_rows.proofs.laws.a_batch_is_one_step.Goals as goal

pub returns : goal.returns
returns c = record { aside = aside_law; mark = mark_law; carry = carry_law; end = end_law }
