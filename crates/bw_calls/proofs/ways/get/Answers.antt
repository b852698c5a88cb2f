use Rattle.std.proofs.Common.{ap, ◌∙◌}
use Rattle.std.specs.FinMap as finite
use Rattle.bw_leaf.specs.Changed.{Map}
use Rattle.bw_calls.proofs.WayLaws.{same_feeds}
use Rattle.bw_calls.proofs.LeaveLaws.{reads_by}
use Rattle.bw_calls.proofs.ways.get.Goals as goal

pub returns-in-Ok-clause-same : goal.returns-in-Ok-clause-same
returns-in-Ok-clause-same g c = same_feeds _ _ _ _ c.get.ensures.follows.continues.start c.get.ensures.feeds ∙ c.take.ensures.same

pub returns-in-Err-clause-same : goal.returns-in-Err-clause-same
returns-in-Err-clause-same g c = same_feeds _ _ _ _ c.get.ensures.follows.continues.start c.get.ensures.feeds ∙ c.take.ensures.same

pub returns-in-Ok-clause-value : goal.returns-in-Ok-clause-value
returns-in-Ok-clause-value g c = c.in-Ok.ensures.value ∙ ap (λ (m : Map). finite.get m c.args.key.now) (c.in_ok-take.ensures.taken ∙ c.take.ensures.same)

pub returns-in-Ok-clause-leaves : goal.returns-in-Ok-clause-leaves
returns-in-Ok-clause-leaves g c = λ ts stops. reads_by _ _ _ c.get.ensures.stays ts (c.take.ensures.leaves ts stops)

pub returns-in-Err-clause-leaves : goal.returns-in-Err-clause-leaves
returns-in-Err-clause-leaves g c = λ ts stops. reads_by _ _ _ c.get.ensures.stays ts (c.take.ensures.leaves ts stops)
