use Rattle.log_tests.proofs.Exampled.{new_counts}
use Rattle.log_tests.proofs.tests.log.page.log_over.Goals as goal

pub returns-in-Ok : goal.returns-in-Ok
returns-in-Ok g c = new_counts _ _ c.in-Ok.ensures.sound c.in-Ok.ensures.made
