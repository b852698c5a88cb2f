use Rattle.std.proofs.Common.{sym, ap, ◌∙◌}
use Rattle.std.specs.Prelude.{is_none}
use Rattle.std.proofs.lemmas.Result.{err_from_is_err_and}
use Rattle.bw_core.specs.Sparing.{takes_last}
use Rattle.bw_core.specs.Views.{kept_by}
use Rattle.bw_core.proofs.Refusing.{prepared_answers, prepared_leaves}
use Rattle.bw_core.proofs.store.Core.flush_making.Goals as goal

pub returns-in_err-prepare-clause-answers : goal.returns-in_err-prepare-clause-answers
returns-in_err-prepare-clause-answers g c =
    let p = err_from_is_err_and c.from_residual.result c.from_residual.ensures.1 in
    let old = kept_by c.args.self.now (λ z. (goal.Segment-dyn g z).holding z.1) in
    rw (p.1, p.2) (prepared_answers (takes_last c.args.spares) old c.in_err-prepare.field-0.0 (search)
    (ap is_none (sym c.next_frame.ensures ∙ c.in-Some.is)) (λ e. c.if-count-eq0.false (c.count.ensures ∙ e)) c.in_err-prepare.ensures.refused)

pub returns-in_err-prepare-clause-leaves : goal.returns-in_err-prepare-clause-leaves
returns-in_err-prepare-clause-leaves g c =
    let p = err_from_is_err_and c.from_residual.result c.from_residual.ensures.1 in
    let old = kept_by c.args.self.now (λ z. (goal.Segment-dyn g z).holding z.1) in
    rw (p.1, p.2) (prepared_leaves (takes_last c.args.spares) old _ c.in_err-prepare.field-0.0 c.in_err-prepare.ensures.refused c.in_err-prepare.ensures.same)
