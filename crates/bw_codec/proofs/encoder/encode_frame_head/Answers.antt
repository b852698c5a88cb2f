use Rattle.bw_codec.proofs.Adding.{grown}
use Rattle.bw_codec.proofs.encoder.encode_frame_head.Goals as goal

pub returns-clause-ok : goal.returns-clause-ok
returns-clause-ok c = grown c.extend_from_slice.result _ _ _ (rw c.frame_cells.ensures at c.extend_from_slice.ensures.items)
