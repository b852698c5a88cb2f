use Rattle.bw_core.proofs.FollowMore.{follows_as}
use Rattle.bw_home.proofs.Reasons.{still_full}
use Rattle.bw_home.proofs.home.Home.queue.Goals as goal

pub returns-in-Ok-clause-follows : goal.returns-in-Ok-clause-follows
returns-in-Ok-clause-follows g c = (follows_as _ _ c.offer.ensures.same).follows

pub returns-in-Err-offer-clause-refused : goal.returns-in-Err-offer-clause-refused
returns-in-Err-offer-clause-refused g c =
    still_full c.take_all.new.self.feeds.items _ _ _ _ _ c.offer.ensures.same c.offer-2.ensures.same c.in_default.ensures.steps c.in_default.ensures.exactly
    c.in-Err-offer.ensures.unchanged
