use Rattle.log_tests.proofs.OnePage.{holds_rolled}
use Rattle.log_tests.proofs.tests.log.walking.rolls.Goals as goal

pub returns : goal.returns
returns g c = holds_rolled _ _ _ c.requires c.roll.ensures.sound c.roll.ensures.closed
