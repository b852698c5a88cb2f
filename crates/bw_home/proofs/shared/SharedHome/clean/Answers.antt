use Rattle.std.proofs.Common.{◌∙◌, inl, inr, refl, sym}
use Rattle.std.proofs.lemmas.Result.{err_from_is_err_and}
use Rattle.bw_store.proofs.Showing.{stays_as_it_was}
use Rattle.bw_home.proofs.shared.SharedHome.clean.Goals as goal

pub returns-in_err-renew-2-clause-ready : goal.returns-in_err-renew-2-clause-ready
returns-in_err-renew-2-clause-ready g c =
    record { sound = c.clean.ensures.sound; feeds = c.requires.feeds ∙ sym c.clean.ensures.follows.base.rings }

pub returns-clause-ready : goal.returns-clause-ready
returns-clause-ready g c = record { sound = c.clean.ensures.sound; feeds = c.requires.feeds ∙ sym c.clean.ensures.follows.base.rings }

pub returns-in_err-renew-clause-follows : goal.returns-in_err-renew-clause-follows
returns-in_err-renew-clause-follows g c = (stays_as_it_was _).continues

pub returns-in_err-cleaned-clause-cleans : goal.returns-in_err-cleaned-clause-cleans
returns-in_err-cleaned-clause-cleans g c =
    let p = err_from_is_err_and c.from_residual-in_err-cleaned.result c.from_residual-in_err-cleaned.ensures.1 in
    let its = c.in_err-cleaned.ensures in
    rw (p.1, p.2) (inr (inl (
      _,
      refl,
      record { leaves = its.leaves; floor = its.floor; boxes = its.boxes; gone = its.gone; counts = its.counts; before = its.before },
    )))

pub returns-in_err-renew-2-clause-cleans : goal.returns-in_err-renew-2-clause-cleans
returns-in_err-renew-2-clause-cleans g c =
    let p = err_from_is_err_and c.from_residual-in_err-renew-2.result c.from_residual-in_err-renew-2.ensures.1 in
    let its = c.in_ok-cleaned.ensures in
    rw (p.1, p.2) (inr (inr (
      c.in_err-renew-2.ensures.refused,
      (_, record { leaves = its.leaves; floor = its.floor; boxes = its.boxes; gone = its.gone; counts = its.counts; before = its.before }),
    )))
