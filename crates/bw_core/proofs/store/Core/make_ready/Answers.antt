use Rattle.std.proofs.Common.{true, inl, inr, refl}
use Rattle.std.proofs.lemmas.Result.{err_from_is_err_and}
use Rattle.bw_core.specs.Emptied.{Emptied}
use Rattle.bw_core.proofs.SettledMore.{settled_by}
use Rattle.bw_core.proofs.GoesMore.{goes_flushed, goes_same}
use Rattle.bw_core.proofs.store.Core.make_ready.Goals as goal

pub returns-in_err-flush_making-clause-refused : goal.returns-in_err-flush_making-clause-refused
returns-in_err-flush_making-clause-refused g c =
    let p = err_from_is_err_and c.from_residual.result c.from_residual.ensures.1 in
    rw (p.1, p.2) (inl (c.in_err-flush_making.ensures.answers, c.in_err-flush_making.ensures.leaves))

pub returns-in_err-flush_making-clause-goes : goal.returns-in_err-flush_making-clause-goes
returns-in_err-flush_making-clause-goes g c = goes_flushed _ _ _ _ c.flush_making.ensures.keeps c.flush_making.ensures.leaves

pub returns-in_err-reserve_cuts-clause-refused : goal.returns-in_err-reserve_cuts-clause-refused
returns-in_err-reserve_cuts-clause-refused g c =
    let p = err_from_is_err_and c.from_residual-in_err-reserve_cuts.result c.from_residual-in_err-reserve_cuts.ensures.1 in
    let empty : Emptied true _ _ = record { number = _; answers = c.in_ok-flush_making.ensures.answers; leaves = c.in_ok-flush_making.ensures.leaves } in
    rw (p.1, p.2) (inr (_, empty, refl, c.reserve_cuts.ensures.same))

pub returns-in_err-reserve_cuts-clause-goes : goal.returns-in_err-reserve_cuts-clause-goes
returns-in_err-reserve_cuts-clause-goes g c = goes_same _ _ _ _ (goes_flushed c.args.self.now _ _ _ c.flush_making.ensures.keeps c.flush_making.ensures.leaves) c.reserve_cuts.ensures.same c.reserve_cuts.ensures.stays

pub returns-clause-emptied : goal.returns-clause-emptied
returns-clause-emptied g c =
    let empty : Emptied true _ _ = record { number = _; answers = c.in_ok-flush_making.ensures.answers; leaves = c.in_ok-flush_making.ensures.leaves } in
    rw c.reserve_cuts.ensures.same empty

pub returns-clause-settled : goal.returns-clause-settled
returns-clause-settled g c =
    rw c.reserve_cuts.ensures.same (settled_by true _ _ c.in_ok-flush_making.field-0 c.in_ok-flush_making.ensures.keeps.sound c.in_ok-flush_making.ensures.answers
    c.in_ok-flush_making.ensures.leaves)

pub returns-clause-goes : goal.returns-clause-goes
returns-clause-goes g c = goes_same _ _ _ _ (goes_flushed c.args.self.now _ _ _ c.flush_making.ensures.keeps c.flush_making.ensures.leaves) c.reserve_cuts.ensures.same c.reserve_cuts.ensures.stays
