use Rattle.log_tests.proofs.OnePage.{opens_as}
use Rattle.log_tests.proofs.tests.log.page.opening.Goals as goal

pub returns-in-Ok : goal.returns-in-Ok
returns-in-Ok c =
    opens_as _ _ 107 118 _ _ _ c.in_ok-ops_of.ensures c.in_ok-frame.ensures c.in_ok-change_of.ensures c.empty_page-leaf.ensures c.in-Ok.ensures.ok
