use Rattle.std.proofs.Common.{refl}
use Rattle.bw_store.proofs.Beside.{reads_beside, walks_beside}
use Rattle.bw_store.proofs.store.Store.prev_at.Goals as goal

pub returns-clause-reads : goal.returns-clause-reads
returns-clause-reads g c = reads_beside _ _ _ c.requires c.prev_at.ensures.reads refl

pub returns-clause-walks : goal.returns-clause-walks
returns-clause-walks g c = walks_beside _ _ _ _ c.prev_at.ensures.walks refl
