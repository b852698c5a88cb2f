use Rattle.bw_log.proofs.Asked.{page_there}
use Rattle.bw_log.proofs.log.Log.base_of.Goals as goal

pub returns-in-Some-clause-none : goal.returns-in-Some-clause-none
returns-in-Some-clause-none g c = λ none. absurd (none (page_there c.args.page c.args.self.now.pages.items c.in-Some.entry c.in-Some.ensures))
