use Rattle.bw_rows.proofs.ChunkLaws.{all_joined}
use Rattle.bw_rows.proofs.laws.chunks_make_the_value.Goals as goal

pub returns : goal.returns
returns c = all_joined
