use Rattle.std.proofs.Common.{◌≡◌, ◌∙◌, ℕ, ap, rules}
use Rattle.bw_log.specs.Contents.{walk_in}
use Rattle.bw_log.proofs.Asked.{page_there}
use Rattle.bw_log.proofs.log.Log.walk_of.Goals as goal

pub returns-in-Some-clause-some : goal.returns-in-Some-clause-some
returns-in-Some-clause-some g c = λ one.
    let there : (c.in-Some.entry.place.frame, c.in-Some.entry.walk) ≡ walk_in c.args.self.now.pages.items c.args.page = search rules in
    ap (λ (w : ℕ × ℕ). w.1) (there ∙ c.requires.holds.table.walks c.args.page one)

pub returns-in-Some-clause-none : goal.returns-in-Some-clause-none
returns-in-Some-clause-none g c = λ none. absurd (none (page_there c.args.page c.args.self.now.pages.items c.in-Some.entry c.in-Some.ensures))

pub returns-in-None-clause-some : goal.returns-in-None-clause-some
returns-in-None-clause-some g c = λ one.
    let there : (0, 0) ≡ walk_in c.args.self.now.pages.items c.args.page = search rules in
    ap (λ (w : ℕ × ℕ). w.1) (there ∙ c.requires.holds.table.walks c.args.page one)
