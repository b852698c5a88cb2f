use Rattle.std.proofs.Common.{refl}
use Rattle.bw_store.proofs.Beside.{goes_beside}
use Rattle.bw_store.proofs.store.Store.dump.Goals as goal

pub returns-clause-goes : goal.returns-clause-goes
returns-clause-goes g c = goes_beside _ _ _ c.requires c.dump.ensures.goes refl

pub returns-clause-read : goal.returns-clause-read
returns-clause-read g c = record { base = c.dump.ensures.read; quiet = refl }

pub returns-clause-leaves : goal.returns-clause-leaves
returns-clause-leaves g c = record { base = c.dump.ensures.leaves; quiet = refl }
