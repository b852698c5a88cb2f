use Rattle.bw_page.proofs.Runs.{all_here}
use Rattle.memory_tests.proofs.tests.page.pages.foretold.Goals as goal

pub steps-requires : goal.steps-requires
steps-requires c = all_here _ _ c.requires
