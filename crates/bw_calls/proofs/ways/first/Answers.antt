use Rattle.std.proofs.Common.{◌∙◌, subst}
use Rattle.bw_leaf.specs.Changed.{Map}
use Rattle.bw_calls.specs.Changes.{IsFirstOf}
use Rattle.bw_calls.proofs.PlainLaws.{plain_of}
use Rattle.bw_calls.proofs.WayLaws.{first_is, same_feeds}
use Rattle.bw_calls.proofs.LeaveLaws.{reads_by}
use Rattle.bw_calls.proofs.ways.first.Goals as goal

pub returns-in-Ok-clause-same : goal.returns-in-Ok-clause-same
returns-in-Ok-clause-same g c = same_feeds _ _ _ _ c.next.ensures.follows.continues.start c.next.ensures.feeds ∙ c.take.ensures.same

pub returns-in-Err-clause-same : goal.returns-in-Err-clause-same
returns-in-Err-clause-same g c = same_feeds _ _ _ _ c.next.ensures.follows.continues.start c.next.ensures.feeds ∙ c.take.ensures.same

pub returns-in-Ok-clause-value : goal.returns-in-Ok-clause-value
returns-in-Ok-clause-value g c =
    subst (λ (m : Map). IsFirstOf (plain_of m) c.args.prefix c.in-Ok.pair) (c.in_ok-take.ensures.taken ∙ c.take.ensures.same)
    (first_is _ c.args.prefix _ _ c.in-Ok.pair c.over-walk.ensures c.in-Ok.ensures.value)

pub returns-in-Ok-clause-leaves : goal.returns-in-Ok-clause-leaves
returns-in-Ok-clause-leaves g c = λ ts stops. reads_by _ _ _ c.next.ensures.stays ts (c.take.ensures.leaves ts stops)

pub returns-in-Err-clause-leaves : goal.returns-in-Err-clause-leaves
returns-in-Err-clause-leaves g c = λ ts stops. reads_by _ _ _ c.next.ensures.stays ts (c.take.ensures.leaves ts stops)
