use Rattle.bw_store.proofs.store.Store.needed.Goals as goal

pub needed-requires : goal.needed-requires
needed-requires g c = c.requires.base
