use Rattle.std.proofs.Common.{refl}
use Rattle.bw_store.proofs.Beside.{goes_beside}
use Rattle.bw_store.proofs.store.Store.roll.Goals as goal

pub returns-clause-goes : goal.returns-clause-goes
returns-clause-goes g c = goes_beside _ _ _ c.requires c.roll.ensures.goes refl
