use Rattle.std.proofs.Common.{◌+◌, ap, ◌∙◌, inl, inr, refl, subst, sym}
use Rattle.bw_drive.specs.Pace.{Paces}
use Rattle.bw_drive.specs.Ran.{Runs}
use Rattle.std.proofs.lemmas.Result.{err_from_is_err_and}
use Rattle.bw_drive.proofs.Paced.{paces_more, stops_as_planned}
use Rattle.bw_drive.proofs.Runs.{runs_none, runs_then, stops_then}
use Rattle.bw_drive.proofs.store_thread.tend.Goals as goal

pub returns-then-not-are_all-clause-runs : goal.returns-then-not-are_all-clause-runs
returns-then-not-are_all-clause-runs g c = runs_none _ _

pub turns-init : goal.turns-init
turns-init g c = record { sound = c.requires.sound; runs = runs_none _ _; counted = c.requires.none; paced = refl }

pub turns-preserved : goal.turns-preserved
turns-preserved g c = record {
  sound = c.tell_due.ensures.sound;
  runs = subst (Runs c.args.plan.clean_at _) (sym c.tell_due.ensures.same)
      (runs_then _ _ _ _ c.turns.invariant.runs c.turn_and_tend.ensures.runs);
  counted = c.turn_and_tend.ensures.counted ∙ ap (λ n. n + 1) c.turns.invariant.counted;
  paced = subst (Paces c.args.plan (c.turns.turn + 1) _) (sym c.tell_due.ensures.same)
      (paces_more c.args.plan c.turns.turn c.from-every.result _ _ _ _ c.from-every.ensures refl c.turns.invariant.paced
      c.in_ok-turn_and_tend.ensures.paced);
}

pub returns-in_err-turn_and_tend-clause-runs : goal.returns-in_err-turn_and_tend-clause-runs
returns-in_err-turn_and_tend-clause-runs g c = runs_then _ _ _ _ c.turns.invariant.runs c.turn_and_tend.ensures.runs

pub returns-in_err-turn_and_tend-clause-refused : goal.returns-in_err-turn_and_tend-clause-refused
returns-in_err-turn_and_tend-clause-refused g c =
    let p = err_from_is_err_and c.from_residual.result c.from_residual.ensures.1 in
    rw (p.1, p.2) (inr (stops_then _ _ _ _ c.in_err-turn_and_tend.field-0.0 c.turns.invariant.runs c.in_err-turn_and_tend.ensures.refused))

pub returns-then-not-are_all-clause-refused : goal.returns-then-not-are_all-clause-refused
returns-then-not-are_all-clause-refused g c = inl (refl, refl)

pub returns-in_err-turn_and_tend-clause-stopped : goal.returns-in_err-turn_and_tend-clause-stopped
returns-in_err-turn_and_tend-clause-stopped g c =
    let p = err_from_is_err_and c.from_residual.result c.from_residual.ensures.1 in
    rw (p.1, p.2) (inr (record {
      turns = c.turns.turn;
      few = c.turns-test.true;
      before = _;
      paced = c.turns.invariant.paced;
      refused = stops_as_planned c.args.plan c.turns.turn c.from-every.result _ _ c.in_err-turn_and_tend.field-0.0 _ c.from-every.ensures refl
          c.in_err-turn_and_tend.ensures.paced;
    }))
