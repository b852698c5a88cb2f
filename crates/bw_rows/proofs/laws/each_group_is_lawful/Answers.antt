use Rattle.bw_rows.proofs.TableLaws.{doom_law, chunk_law, free_law, end_law, short_law, head_law, fresh_law}
use Rattle.bw_rows.proofs.laws.each_group_is_lawful.Goals as goal

pub returns : goal.returns
returns c = record { fresh = fresh_law; doom = doom_law; chunk = chunk_law; free = free_law; end = end_law; short = short_law; head = head_law }
