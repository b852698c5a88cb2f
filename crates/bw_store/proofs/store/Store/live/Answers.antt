use Rattle.bw_store.proofs.store.Store.live.Goals as goal

pub live-requires : goal.live-requires
live-requires g c = c.requires.base
