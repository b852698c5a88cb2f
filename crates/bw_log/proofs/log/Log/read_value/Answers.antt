use Rattle.std.proofs.Common.{refl}
use Rattle.bw_log.proofs.Asked.{page_there}
use Rattle.bw_log.proofs.Valued.{sound_by, kept_by}
use Rattle.bw_log.proofs.Walked.{page_starts, no_line, page_answer}
use Rattle.bw_log.proofs.log.Log.read_value.Goals as goal

pub returns-in_default-clause-no_page : goal.returns-in_default-clause-no_page
returns-in_default-clause-no_page g c = (λ _. no_line c.args.page c.args.self.now.pages.items c.in_default.ensures, λ _. refl)

pub value_back-requires-clause-starts : goal.value_back-requires-clause-starts
value_back-requires-clause-starts g c = page_starts _ c.args.page c.in-Some.entry c.requires c.in-Some.ensures

pub returns-clause-sound : goal.returns-clause-sound
returns-clause-sound g c = sound_by _ _ _ c.value_back.result c.requires c.value_back.ensures.stops

pub returns-clause-kept : goal.returns-clause-kept
returns-clause-kept g c = kept_by _ _ _ c.value_back.result c.value_back.ensures.stops

pub returns-clause-no_page : goal.returns-clause-no_page
returns-clause-no_page g c =
    page_answer c.args.self.now.pages.items c.args.page c.value_back.result c.value_back.ensures.paged
    (page_there c.args.page c.args.self.now.pages.items c.in-Some.entry c.in-Some.ensures)
