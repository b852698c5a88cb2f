use Rattle.std.proofs.Common.{◌∙◌, sym}
use Rattle.bw_home.proofs.home.Home.upgrade.Goals as goal

pub returns-in_err-empty_row-clause-ready : goal.returns-in_err-empty_row-clause-ready
returns-in_err-empty_row-clause-ready g c = record { sound = c.upgrade.ensures.sound; feeds = c.requires.feeds ∙ sym c.upgrade.ensures.follows.rings }

pub returns-clause-ready : goal.returns-clause-ready
returns-clause-ready g c = record { sound = c.upgrade.ensures.sound; feeds = c.requires.feeds ∙ sym c.upgrade.ensures.follows.rings }
