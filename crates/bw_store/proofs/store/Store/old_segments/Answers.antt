use Rattle.bw_store.proofs.store.Store.old_segments.Goals as goal

pub old_segments-requires : goal.old_segments-requires
old_segments-requires g c = c.requires.base
