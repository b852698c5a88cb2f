use Rattle.bw_store.proofs.store.Store.counters.Goals as goal

pub counters-requires : goal.counters-requires
counters-requires g c = c.requires.base
