use Rattle.std.proofs.Common.{refl}
use Rattle.bw_store.proofs.Beside.{reads_beside}
use Rattle.bw_store.proofs.store.Store.get_shared.Goals as goal

pub returns-clause-reads : goal.returns-clause-reads
returns-clause-reads g c = reads_beside _ _ _ c.requires c.get_shared.ensures.reads refl

pub returns-clause-leaves : goal.returns-clause-leaves
returns-clause-leaves g c = record { base = c.get_shared.ensures.leaves; quiet = refl }
