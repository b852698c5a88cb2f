use Rattle.bw_store.proofs.store.Store.live_segment.Goals as goal

pub live_segment-requires : goal.live_segment-requires
live_segment-requires g c = c.requires.base
