use Rattle.bw_store.proofs.store.Store.walk_of.Goals as goal

pub walk_of-requires : goal.walk_of-requires
walk_of-requires g c = c.requires.base
