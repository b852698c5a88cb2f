use Rattle.bw_core.proofs.FollowMore.{follows_as}
use Rattle.bw_home.proofs.Reasons.{taken_again, turn_refused}
use Rattle.bw_home.proofs.home.Home.put_group.Goals as goal

pub returns-in-Ok-clause-follows : goal.returns-in-Ok-clause-follows
returns-in-Ok-clause-follows g c = (follows_as _ _ c.offer.ensures.same).follows

pub returns-in-Err-turn-clause-refused : goal.returns-in-Err-turn-clause-refused
returns-in-Err-turn-clause-refused g c = turn_refused _ _ _ _ _ _ _ c.offer.ensures.same c.in-Err-turn.ensures.refused

pub returns-in-Err-offer-clause-refused : goal.returns-in-Err-offer-clause-refused
returns-in-Err-offer-clause-refused g c = taken_again _ _ _ _ c.offer.ensures.same c.offer-2.ensures.same c.in_default.ensures.steps
