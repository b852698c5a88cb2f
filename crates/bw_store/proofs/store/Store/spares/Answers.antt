use Rattle.bw_store.proofs.store.Store.spares.Goals as goal

pub spares-requires : goal.spares-requires
spares-requires g c = c.requires.base
