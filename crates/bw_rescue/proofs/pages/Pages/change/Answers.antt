use Rattle.std.proofs.Common.{◌∙◌, sym}
use Rattle.bw_rescue.proofs.BlocksRead.{on_ok, changed_put, put_beside}
use Rattle.bw_rescue.proofs.pages.Pages.change.Goals as goal

pub returns-in_ok-line-in-Some-clause-page : goal.returns-in_ok-line-in-Some-clause-page
returns-in_ok-line-in-Some-clause-page c = on_ok c.put_line.result _ _
    (λ put. changed_put c.args.change.now c.args.page _ _ _ c.in-Some.line c.in_ok-line-in-Some.line (sym c.take_line.ensures.line ∙ c.in-Some.is) c.in_ok-line-in-Some.ensures put)
    (c.put_line.ensures c.args.page)

pub returns-in_ok-line-in-Some-clause-others : goal.returns-in_ok-line-in-Some-clause-others
returns-in_ok-line-in-Some-clause-others c = λ p isnt. on_ok c.put_line.result _ _
    (λ put. put ∙ put_beside c.args.page p _ _ isnt ∙ c.take_line.ensures.others p ∙ put_beside c.args.page p _ _ isnt) (c.put_line.ensures p)
