use Rattle.std.proofs.Common.{ℕ, Bool, subst, refl}
use Rattle.std.proofs.lemmas.Result.{err_from_is_err_and}
use Rattle.bw_log.specs.Appends.{refusal}
use Rattle.bw_core.specs.Faults.{IsRefused}
use Rattle.bw_terms.specs.Told.{fault_of}
use Rattle.bw_core.specs.Sparing.{takes_last}
use Rattle.bw_core.specs.Views.{kept_by}
use Rattle.bw_core.proofs.Refusing.{checked}
use Rattle.bw_core.proofs.store.Core.prepare.Goals as goal

pub returns-in_err-ready-clause-refused : goal.returns-in_err-ready-clause-refused
returns-in_err-ready-clause-refused g c =
    let p = err_from_is_err_and c.from_residual.result c.from_residual.ensures.1 in
    let fault = c.in_err-ready.field-0.0 in
    let log = (kept_by c.args.self.now (λ z. (goal.Segment-dyn g z).holding z.1)).log in
    let refused = checked _ fault c.in_err-ready.ensures.checks in
    rw (p.1, p.2) (subst (λ (n : ℕ). IsRefused (refusal log n (takes_last c.args.spares)) (fault_of fault)) c.len-len.ensures.value
    (subst (λ (last : Bool). IsRefused (refusal log c.len-len.result last) (fault_of fault)) c.takes_last.ensures refused))

pub returns-in_err-ready-clause-same : goal.returns-in_err-ready-clause-same
returns-in_err-ready-clause-same g c = rw (c.ready.ensures.same) refl

pub returns-in_err-reserve-clause-same : goal.returns-in_err-reserve-clause-same
returns-in_err-reserve-clause-same g c = rw (c.ready.ensures.same, c.reserve.ensures.items) refl

pub returns-clause-same : goal.returns-clause-same
returns-clause-same g c = rw (c.ready.ensures.same, c.reserve.ensures.items) refl
