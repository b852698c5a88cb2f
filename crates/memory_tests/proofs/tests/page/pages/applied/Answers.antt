use Rattle.bw_page.proofs.Runs.{all_here}
use Rattle.memory_tests.proofs.tests.page.pages.applied.Goals as goal

pub apply_all_of-requires : goal.apply_all_of-requires
apply_all_of-requires c = all_here _ _ c.requires
