use Rattle.std.proofs.Common.{ap, ◌∙◌}
use Rattle.bw_care.specs.declared.tally.Tally.{Tally}
use Rattle.bw_core.proofs.CountsMore.{pages_kept}
use Rattle.bw_core.proofs.store.Core.upgrade_counted.Goals as goal

pub invariant_of-self-clause-whole : goal.invariant_of-self-clause-whole
invariant_of-self-clause-whole g c = c.upgrade_pages-moved.new.self.whole

pub invariant_of-self-clause-began : goal.invariant_of-self-clause-began
invariant_of-self-clause-began g c =
    ap (λ (t : Tally). t.pages) c.with_moved-self.ensures
    ∙ (pages_kept c.upgrade_pages-moved.new.self.counts.tally c.is_ok.result _ _ _ _ _ ∙ c.upgrade_pages-moved.new.self.began)
