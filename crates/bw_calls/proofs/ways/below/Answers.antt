use Rattle.std.proofs.Common.{◌∙◌}
use Rattle.bw_calls.proofs.WayLaws.{same_feeds}
use Rattle.bw_calls.proofs.LeaveLaws.{reads_by}
use Rattle.bw_calls.proofs.ways.below.Goals as goal

pub returns-in-Ok-clause-same : goal.returns-in-Ok-clause-same
returns-in-Ok-clause-same g c = same_feeds _ _ _ _ c.prev_below.ensures.follows.continues.start c.prev_below.ensures.feeds ∙ c.take.ensures.same

pub returns-in-Err-clause-same : goal.returns-in-Err-clause-same
returns-in-Err-clause-same g c = same_feeds _ _ _ _ c.prev_below.ensures.follows.continues.start c.prev_below.ensures.feeds ∙ c.take.ensures.same

pub returns-in-Ok-clause-leaves : goal.returns-in-Ok-clause-leaves
returns-in-Ok-clause-leaves g c = λ ts stops. reads_by _ _ _ c.prev_below.ensures.stays ts (c.take.ensures.leaves ts stops)

pub returns-in-Err-clause-leaves : goal.returns-in-Err-clause-leaves
returns-in-Err-clause-leaves g c = λ ts stops. reads_by _ _ _ c.prev_below.ensures.stays ts (c.take.ensures.leaves ts stops)
