use Rattle.std.proofs.Common.{inl, inr, refl, arith}
use Rattle.std.proofs.lemmas.Result.{err_from_is_err_and}
use Rattle.bw_drive.proofs.Runs.{kept_all, kept_but, runs_then, stops_now, stops_then}
use Rattle.bw_drive.proofs.store_thread.flush_and_clean.Goals.{then-clean_at-eq0-via-then-clean_at-eq0}
use Rattle.bw_drive.proofs.store_thread.flush_and_clean.Goals.{then-clean_at-eq0-via-else-clean_at-eq0+then-live-clean_at}
use Rattle.bw_drive.proofs.store_thread.flush_and_clean.Goals as goal

pub returns-in_err-flush-clause-runs : goal.returns-in_err-flush-clause-runs
returns-in_err-flush-clause-runs g c = kept_all _ _ _ c.flush.ensures.goes.follows c.flush.ensures.goes.boxes

pub returns-in_err-flush-clause-refused : goal.returns-in_err-flush-clause-refused
returns-in_err-flush-clause-refused g c =
    let p = err_from_is_err_and c.from_residual.result c.from_residual.ensures.1 in
    rw (p.1, p.2) (stops_now _ _ _ c.in_err-flush.field-0.0 (inr (inl (c.in_err-flush.ensures.answers, c.in_err-flush.ensures.leaves))))

pub returns-then-clean_at-eq0-clause-runs : goal.returns-then-clean_at-eq0-clause-runs
returns-then-clean_at-eq0-clause-runs g c = kept_all _ _ _ c.flush.ensures.goes.follows c.flush.ensures.goes.boxes

pub returns-in_err-clean-clause-runs : goal.returns-in_err-clean-clause-runs
returns-in_err-clean-clause-runs g c =
    let some = c.if-clean_at-eq0.false in
    runs_then _ _ _ _ (kept_all _ _ _ c.flush.ensures.goes.follows c.flush.ensures.goes.boxes)
    (kept_but _ _ _ c.clean.result (omega arith) c.clean.ensures.follows c.clean.ensures.boxes c.clean.ensures.floor)

pub returns-in_err-clean-clause-refused : goal.returns-in_err-clean-clause-refused
returns-in_err-clean-clause-refused g c =
    let p = err_from_is_err_and c.from_residual-in_err-clean.result c.from_residual-in_err-clean.ensures.1 in
    let some = c.if-clean_at-eq0.false in
    let live = c.live.ensures in
    let many = c.if-live-clean_at.false in
    rw (p.1, p.2) (stops_then _ _ _ _ c.in_err-clean.field-0.0 (kept_all _ _ _ c.flush.ensures.goes.follows c.flush.ensures.goes.boxes)
    (stops_now _ _ _ c.in_err-clean.field-0.0 (inr (inr (inl (omega arith, omega arith, c.in_err-clean.ensures.leaves))))))

pub returns-clause-runs : goal.returns-clause-runs
returns-clause-runs g c =
    let some = c.if-clean_at-eq0.false in
    runs_then _ _ _ _ (kept_all _ _ _ c.flush.ensures.goes.follows c.flush.ensures.goes.boxes)
    (kept_but _ _ _ c.clean.result (omega arith) c.clean.ensures.follows c.clean.ensures.boxes c.clean.ensures.floor)

pub returns-in_err-flush-clause-paced : goal.returns-in_err-flush-clause-paced
returns-in_err-flush-clause-paced g c =
    let p = err_from_is_err_and c.from_residual.result c.from_residual.ensures.1 in
    rw (p.1, p.2) (inl (c.in_err-flush.ensures.answers, c.in_err-flush.ensures.leaves))

pub returns-then-clean_at-eq0-clause-paced : goal.returns-then-clean_at-eq0-clause-paced
returns-then-clean_at-eq0-clause-paced g c = (
  _,
  (_, c.in_ok-flush.ensures.answers, c.in_ok-flush.ensures.leaves),
  inl (
    (λ due. elim c.then-clean_at-eq0.branch [
      | then-clean_at-eq0-via-then-clean_at-eq0 w ↦ (let none = w.if-clean_at-eq0.true in let some = due.0 in omega arith)
      | then-clean_at-eq0-via-else-clean_at-eq0+then-live-clean_at w ↦ (
          let few = w.if-live-clean_at.true in
          let live = w.live.ensures in
          let many = due.1 in
          omega arith
          )
    ]),
    refl,
  ),
)

pub returns-in_err-clean-clause-paced : goal.returns-in_err-clean-clause-paced
returns-in_err-clean-clause-paced g c =
    let p = err_from_is_err_and c.from_residual-in_err-clean.result c.from_residual-in_err-clean.ensures.1 in
    let some = c.if-clean_at-eq0.false in
    let live = c.live.ensures in
    let many = c.if-live-clean_at.false in
    rw (p.1, p.2) (inr (_, (_, c.in_ok-flush.ensures.answers, c.in_ok-flush.ensures.leaves), (omega arith, omega arith), c.in_err-clean.ensures.leaves))

pub returns-clause-paced : goal.returns-clause-paced
returns-clause-paced g c =
    let some = c.if-clean_at-eq0.false in
    let live = c.live.ensures in
    let many = c.if-live-clean_at.false in
    (_, (_, c.in_ok-flush.ensures.answers, c.in_ok-flush.ensures.leaves), inr ((omega arith, omega arith), (_, c.in_ok-clean.ensures.leaves)))
