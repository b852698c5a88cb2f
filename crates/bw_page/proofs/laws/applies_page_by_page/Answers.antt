use Rattle.bw_page.proofs.PageByPage.{page_by_page}
use Rattle.bw_page.proofs.laws.applies_page_by_page.Goals as goal

pub returns : goal.returns
returns c = page_by_page
