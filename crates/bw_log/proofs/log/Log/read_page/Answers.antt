use Rattle.std.proofs.Common.{Ok, Err, refl, sym, ◌∙◌}
use Rattle.std.proofs.lemmas.Result.{err_from_is_err_and}
use Rattle.bw_log.specs.declared.fault.LogFault.TheVariants.{NoMemory}
use Rattle.bw_log.proofs.Fetched.{sound_after, kept_after}
use Rattle.bw_log.proofs.Asked.{page_there}
use Rattle.bw_log.proofs.Walked.{page_starts, no_line, not_none, page_answer, other_as}
use Rattle.bw_log.proofs.log.Log.read_page.Goals as goal

pub returns-in_default-clause-no_page : goal.returns-in_default-clause-no_page
returns-in_default-clause-no_page g c = (λ _. no_line c.args.page c.args.self.now.pages.items c.in_default.ensures, λ _. refl)

pub walk-requires-clause-starts : goal.walk-requires-clause-starts
walk-requires-clause-starts g c = page_starts _ c.args.page c.in-Some.entry c.requires c.in-Some.ensures

pub returns-in_err-blocks-clause-no_page : goal.returns-in_err-blocks-clause-no_page
returns-in_err-blocks-clause-no_page g c =
    let p = err_from_is_err_and c.from_residual.result c.from_residual.ensures.1 in
    page_answer c.args.self.now.pages.items c.args.page c.from_residual.result
    (other_as c.from_residual.result p.0 c.in_err-blocks.field-0.0 p.1 p.2 c.in_err-blocks.ensures.paged)
    (page_there c.args.page c.args.self.now.pages.items c.in-Some.entry c.in-Some.ensures)

pub unreachable-requires : goal.unreachable-requires
unreachable-requires g c =
    let there = page_there c.args.page c.args.self.now.pages.items c.in-Some.entry c.in-Some.ensures in
    not_none _ c.args.page _ c.requires there.0 there.1 (sym c.in-Ok-None.field-0-is ∙ c.in-Ok-None.ensures) c.in_ok-blocks.ensures.walked

pub returns-in-Ok-Some-clause-no_page : goal.returns-in-Ok-Some-clause-no_page
returns-in-Ok-Some-clause-no_page g c =
    page_answer c.args.self.now.pages.items c.args.page (Ok c.in-Ok-Some.leaf) (λ e. cc)
    (page_there c.args.page c.args.self.now.pages.items c.in-Some.entry c.in-Some.ensures)

pub returns-in-Err-clause-no_page : goal.returns-in-Err-clause-no_page
returns-in-Err-clause-no_page g c =
    page_answer c.args.self.now.pages.items c.args.page (Err NoMemory) (λ e. cc)
    (page_there c.args.page c.args.self.now.pages.items c.in-Some.entry c.in-Some.ensures)

pub returns-in_err-blocks-clause-sound : goal.returns-in_err-blocks-clause-sound
returns-in_err-blocks-clause-sound g c = sound_after _ _ _ c.in_err-blocks.field-0.0 c.requires c.in_err-blocks.ensures.stops

pub returns-in_err-blocks-clause-kept : goal.returns-in_err-blocks-clause-kept
returns-in_err-blocks-clause-kept g c = kept_after _ _ _ c.in_err-blocks.field-0.0 c.in_err-blocks.ensures.stops
