use Rattle.bw_home.proofs.Cuts.{stays_heard}
use Rattle.bw_home.proofs.home.Home.take_all.Goals as goal

pub returns-clause-stays : goal.returns-clause-stays
returns-clause-stays g c =
    let its = c.take_all.ensures in
    stays_heard _ _ _ c.requires.sound its.sound its.sequel.follows.continues its.feeds its.heard
