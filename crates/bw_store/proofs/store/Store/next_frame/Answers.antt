use Rattle.bw_store.proofs.store.Store.next_frame.Goals as goal

pub next_frame-requires : goal.next_frame-requires
next_frame-requires g c = c.requires.base
