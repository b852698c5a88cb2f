use Rattle.log_tests.proofs.OnePage.{opens_follows}
use Rattle.log_tests.proofs.tests.log.page.begin.Goals as goal

pub append-requires-clause-follows : goal.append-requires-clause-follows
append-requires-clause-follows g c = opens_follows _ _ _ c.requires.empty c.requires.opens
