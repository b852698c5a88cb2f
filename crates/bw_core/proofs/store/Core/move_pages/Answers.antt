use Rattle.bw_core.proofs.store.Core.move_pages.Goals as goal

pub invariant_of-self-clause-whole : goal.invariant_of-self-clause-whole
invariant_of-self-clause-whole g c = c.move_all-moved.new.self.whole
