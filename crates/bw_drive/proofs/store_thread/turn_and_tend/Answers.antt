use Rattle.std.proofs.Common.{inl, refl}
use Rattle.std.proofs.lemmas.Result.{err_from_is_err_and, IfErr-weaker}
use Rattle.bw_drive.proofs.Paced.{paced_by, tends_none}
use Rattle.bw_drive.proofs.Runs.{kept_all, runs_then, stops_now, stops_then}
use Rattle.bw_drive.proofs.store_thread.turn_and_tend.Goals as goal

pub returns-in_err-turn-clause-runs : goal.returns-in_err-turn-clause-runs
returns-in_err-turn-clause-runs g c = kept_all _ _ _ c.turn.ensures.follows c.turn.ensures.boxes

pub returns-in_err-turn-clause-refused : goal.returns-in_err-turn-clause-refused
returns-in_err-turn-clause-refused g c =
    let p = err_from_is_err_and c.from_residual.result c.from_residual.ensures.1 in
    rw (p.1, p.2) (stops_now _ _ _ c.in_err-turn.field-0.0 (inl (_, _, c.in_err-turn.ensures.took)))

pub returns-then-not-is_due-clause-runs : goal.returns-then-not-is_due-clause-runs
returns-then-not-is_due-clause-runs g c = kept_all _ _ _ c.turn.ensures.follows c.turn.ensures.boxes

pub returns-clause-runs : goal.returns-clause-runs
returns-clause-runs g c =
    runs_then _ _ _ _ (kept_all _ _ _ c.turn.ensures.follows c.turn.ensures.boxes) c.flush_and_clean.ensures.runs

pub returns-clause-refused : goal.returns-clause-refused
returns-clause-refused g c =
    IfErr-weaker c.flush_and_clean.result _ _
    (λ cause stops. stops_then _ _ _ _ cause (kept_all _ _ _ c.turn.ensures.follows c.turn.ensures.boxes) stops)
    c.flush_and_clean.ensures.refused

pub returns-in_err-turn-clause-paced : goal.returns-in_err-turn-clause-paced
returns-in_err-turn-clause-paced g c =
    let p = err_from_is_err_and c.from_residual.result c.from_residual.ensures.1 in
    rw (p.1, p.2) (inl (_, _, c.in_err-turn.ensures.took))

pub returns-then-not-is_due-clause-paced : goal.returns-then-not-is_due-clause-paced
returns-then-not-is_due-clause-paced g c =
    (_, c.in_ok-turn.ensures.took, tends_none c.args.is_due c.args.plan.clean_at _ _ c.if-not-is_due.true refl)

pub returns-clause-paced : goal.returns-clause-paced
returns-clause-paced g c =
    paced_by c.flush_and_clean.result c.args.plan c.args.is_due _ _ _ c.if-not-is_due.false c.in_ok-turn.ensures.took c.flush_and_clean.ensures.paced
