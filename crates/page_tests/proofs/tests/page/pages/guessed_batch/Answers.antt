use Rattle.bw_page.proofs.Runs.{all_here}
use Rattle.page_tests.proofs.tests.page.pages.guessed_batch.Goals as goal

pub apply_all_of-requires : goal.apply_all_of-requires
apply_all_of-requires c = all_here _ _ c.requires
