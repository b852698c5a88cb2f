use Rattle.std.proofs.Common.{Err, refl, ap}
use Rattle.std.proofs.lemmas.Result.{err_from_is_err_and}
use Rattle.bw_page.specs.declared.fault.ApplyError.{ApplyError}
use Rattle.bw_core.specs.Views.{kept_by}
use Rattle.bw_core.proofs.EnterMore.{wanting_of}
use Rattle.bw_core.proofs.Planned.{wanting_unplanned}
use Rattle.bw_core.proofs.Refusing.{stopped_unplanned}
use Rattle.bw_core.proofs.store.Core.draft.Goals as goal

pub returns-in_err-goes_on-clause-refused : goal.returns-in_err-goes_on-clause-refused
returns-in_err-goes_on-clause-refused g c =
    let p = err_from_is_err_and c.from_residual.result c.from_residual.ensures.1 in
    rw (p.1, p.2) (stopped_unplanned c.args.records.now _ _ c.in_err-goes_on.ensures.refused)

pub returns-in_err-steps-clause-refused : goal.returns-in_err-steps-clause-refused
returns-in_err-steps-clause-refused g c =
    let s = kept_by c.args.self.now (λ z. (goal.Segment-dyn g z).holding z.1) in
    let p = err_from_is_err_and c.from_residual-in_err-steps.result c.from_residual-in_err-steps.ensures.1 in
    rw (p.1, p.2) (wanting_unplanned s c.args.records.now _ c.in_ok-goes_on.ensures.works
    (wanting_of s c.args.self.now.pages.leaves c.args.records.now c.in_err-steps.field-0.0 refl refl
    (λ e. c.in_err-steps.ensures.only_spent (ap (λ (x : ApplyError). Err x) e))))
