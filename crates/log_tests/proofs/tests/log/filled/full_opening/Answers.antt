use Rattle.log_tests.proofs.FilledExample.{puts_fit, full_opens}
use Rattle.log_tests.proofs.tests.log.filled.full_opening.Goals as goal

pub first_frame-requires : goal.first_frame-requires
first_frame-requires c = puts_fit _ c.in_ok-puts.ensures

pub returns-in-Ok : goal.returns-in-Ok
returns-in-Ok c = full_opens _ _ _ _ _ c.in_ok-puts.ensures c.in_ok-frame.ensures c.in_ok-change_of.ensures c.empty_page-leaf.ensures c.in-Ok.ensures.ok
