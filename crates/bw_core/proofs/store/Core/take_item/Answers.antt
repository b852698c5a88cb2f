use Rattle.std.proofs.Common.{◌∷◌, [], ℕ, refl, sym}
use Rattle.bw_core.proofs.Fetched.{fetch_refuses, key_unread}
use Rattle.std.proofs.lemmas.Result.{err_from_is_err_and}
use Rattle.bw_core.proofs.Refusing.{stopped_unplanned, unplanned_now}
use Rattle.bw_core.proofs.store.Core.take_item.Goals as goal

pub returns-in_err-goes_on-clause-leaves : goal.returns-in_err-goes_on-clause-leaves
returns-in_err-goes_on-clause-leaves g c =
    let p = err_from_is_err_and c.from_residual.result c.from_residual.ensures.1 in
    rw (p.1, p.2) (unplanned_now _ (c.args.item.now ∷ []) _ _ (stopped_unplanned (c.args.item.now ∷ []) _ _ c.in_err-goes_on.ensures.refused))

pub returns-clause-leaves : goal.returns-clause-leaves
returns-clause-leaves g c = rw (sym c.in_ok-page.ensures.leaves) c.take_here.ensures.leaves

pub returns-in_err-page-clause-leaves : goal.returns-in_err-page-clause-leaves
returns-in_err-page-clause-leaves g c =
    let p = err_from_is_err_and c.from_residual-in_err-page.result c.from_residual-in_err-page.ensures.1 in
    rw (p.1, p.2) (fetch_refuses _ (c.args.item.now ∷ []) _ _ _ c.in_ok-goes_on.ensures.works
    (key_unread ℕ _ (c.args.item.now ∷ []) 0 c.args.item.now _ _ _ _ c.key.ensures.value refl c.in_err-page.ensures.away c.fetch.ensures.read
    c.in_err-page.ensures.leaves))
