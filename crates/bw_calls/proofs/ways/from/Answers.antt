use Rattle.std.proofs.Common.{◌∙◌, subst}
use Rattle.bw_leaf.specs.Changed.{Map}
use Rattle.bw_page.specs.Ahead.{IsFirst}
use Rattle.bw_calls.proofs.LeaveLaws.{reads_by}
use Rattle.bw_calls.proofs.WayLaws.{same_feeds}
use Rattle.bw_calls.proofs.ways.from.Goals as goal

pub returns-in-Ok-clause-same : goal.returns-in-Ok-clause-same
returns-in-Ok-clause-same g c = same_feeds _ _ _ _ c.next_at.ensures.follows.continues.start c.next_at.ensures.feeds ∙ c.take.ensures.same

pub returns-in-Err-clause-same : goal.returns-in-Err-clause-same
returns-in-Err-clause-same g c = same_feeds _ _ _ _ c.next_at.ensures.follows.continues.start c.next_at.ensures.feeds ∙ c.take.ensures.same

pub returns-in-Ok-clause-value : goal.returns-in-Ok-clause-value
returns-in-Ok-clause-value g c = subst (λ (m : Map). IsFirst m c.args.key.now c.in-Ok.pair) (c.in_ok-take.ensures.taken ∙ c.take.ensures.same) c.in-Ok.ensures.value

pub returns-in-Ok-clause-leaves : goal.returns-in-Ok-clause-leaves
returns-in-Ok-clause-leaves g c = λ ts stops. reads_by _ _ _ c.next_at.ensures.stays ts (c.take.ensures.leaves ts stops)

pub returns-in-Err-clause-leaves : goal.returns-in-Err-clause-leaves
returns-in-Err-clause-leaves g c = λ ts stops. reads_by _ _ _ c.next_at.ensures.stays ts (c.take.ensures.leaves ts stops)
