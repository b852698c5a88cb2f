use Rattle.std.proofs.Common.{◌≡◌, ◌∙◌, rules}
use Rattle.bw_log.specs.Contents.{some_place, place_in}
use Rattle.bw_log.proofs.Asked.{page_there}
use Rattle.bw_log.proofs.log.Log.place_of.Goals as goal

pub returns-in-Some-clause-some : goal.returns-in-Some-clause-some
returns-in-Some-clause-some g c = λ one.
    let there : some_place c.in-Some.entry.place ≡ place_in (λ e. e.place) c.args.self.now.pages.items c.args.page = search rules in
    c.place_or_none.ensures ∙ there ∙ c.requires.holds.table.places c.args.page one

pub returns-in-Some-clause-none : goal.returns-in-Some-clause-none
returns-in-Some-clause-none g c = λ none. absurd (none (page_there c.args.page c.args.self.now.pages.items c.in-Some.entry c.in-Some.ensures))
