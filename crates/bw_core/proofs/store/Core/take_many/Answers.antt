use Rattle.std.proofs.Common.{inl, arith}
use Rattle.std.proofs.lemmas.Result.{err_from_is_err_and}
use Rattle.bw_core.specs.Views.{kept_by}
use Rattle.bw_core.proofs.EnterMore.{drafted_left}
use Rattle.bw_core.proofs.Fetched.{fetch_refuses_as}
use Rattle.bw_core.proofs.Refusing.{stopped_unplanned, unplanned_now}
use Rattle.bw_core.proofs.store.Core.take_many.Goals as goal

pub returns-in_err-goes_on-clause-leaves : goal.returns-in_err-goes_on-clause-leaves
returns-in_err-goes_on-clause-leaves g c =
    let p = err_from_is_err_and c.from_residual.result c.from_residual.ensures.1 in
    rw (p.1, p.2) (unplanned_now _ c.args.group _ _ (stopped_unplanned c.args.group _ _ c.in_err-goes_on.ensures.refused))

pub returns-in-Some-clause-leaves : goal.returns-in-Some-clause-leaves
returns-in-Some-clause-leaves g c =
    let fetched = kept_by c.fetch_all.new.self (λ z. (goal.Segment-dyn g z).holding z.1) in
    let count = c.len.ensures.value in
    let few = c.len.ensures.few in
    let least = few.0 in
    let most = few.1 in
    drafted_left c.args.lane _ _ fetched _ _ c.args.group _ c.in_ok-draft.field-0 c.in-Some.draft _ (omega arith, omega arith) c.in_ok-goes_on.ensures.works
    (inl c.in_ok-fetch_all.ensures.leaves) c.in_ok-draft.ensures.works c.draft.ensures.same c.as_slice-2.ensures.value c.in-Some.is c.in_ok-draft.ensures.draft
    c.enter_all.ensures.ok c.enter_all.ensures.unchanged c.enter_all.ensures.refused

pub returns-in_err-fetch_all-clause-leaves : goal.returns-in_err-fetch_all-clause-leaves
returns-in_err-fetch_all-clause-leaves g c =
    let p = err_from_is_err_and c.from_residual-in_err-fetch_all.result c.from_residual-in_err-fetch_all.ensures.1 in
    rw (p.1, p.2) (fetch_refuses_as _ c.args.group _ _ _ _ c.as_slice.ensures.value c.in_ok-goes_on.ensures.works c.in_err-fetch_all.ensures.leaves)
