use Rattle.bw_store.proofs.store.Store.pays.Goals as goal

pub pays-requires : goal.pays-requires
pays-requires g c = c.requires.base
