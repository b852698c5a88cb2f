use Rattle.std.proofs.Common.{refl}
use Rattle.bw_core.proofs.FollowMore.{follows_as}
use Rattle.bw_home.proofs.Cuts.{stays_same}
use Rattle.bw_home.proofs.home.Home.clean.Goals as goal

pub returns-in_err-renew-clause-follows : goal.returns-in_err-renew-clause-follows
returns-in_err-renew-clause-follows g c = (follows_as _ _ refl).follows.continues

pub returns-in_err-renew-clause-stays : goal.returns-in_err-renew-clause-stays
returns-in_err-renew-clause-stays g c = stays_same _ _ _ c.requires.sound refl refl

pub returns-in_err-cleaned-clause-stays : goal.returns-in_err-cleaned-clause-stays
returns-in_err-cleaned-clause-stays g c = record { map = c.give_up.ensures.stays.map; cuts = c.give_up.ensures.stays.cuts }

pub returns-in_err-renew-2-clause-stays : goal.returns-in_err-renew-2-clause-stays
returns-in_err-renew-2-clause-stays g c = record { map = c.give_up.ensures.stays.map; cuts = c.give_up.ensures.stays.cuts }

pub returns-clause-stays : goal.returns-clause-stays
returns-clause-stays g c = record { map = c.give_up.ensures.stays.map; cuts = c.give_up.ensures.stays.cuts }
