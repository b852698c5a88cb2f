use Rattle.bw_store.proofs.store.Store.durable_of.Goals as goal

pub durable_of-requires : goal.durable_of-requires
durable_of-requires g c = c.requires.base
