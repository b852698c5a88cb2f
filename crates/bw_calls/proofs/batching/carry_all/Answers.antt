use Rattle.std.proofs.Common.{inr, [], ◌∷◌}
use Rattle.bw_home.specs.Maps.{maps_of}
use Rattle.bw_calls.proofs.BatchLaws.{first_pair_moved, none_aside_moved, stands_moved}
use Rattle.bw_calls.proofs.OtherLaws.{on_any}
use Rattle.bw_calls.proofs.batching.carry_all.Goals as goal

pub rows-preserved : goal.rows-preserved
rows-preserved g c =
    let pair = first_pair_moved (maps_of c.rows.home (λ z. (goal.Segment-dyn g z).holding z.1)).put _ (6 ∷ []) c.in-Some.key c.in-Some.aside _ c.first_aside.ensures.same c.in-Some.is c.in_ok-key.ensures.first in (
      c.carry.ensures.ready,
      λ tables stands. c.carry.ensures.stands tables (stands_moved tables _ _ (c.rows.invariant.1 tables stands) c.first_aside.ensures.same) pair.0,
      λ tables stands ts among stops. c.carry.ensures.leaves tables (stands_moved tables _ _ (c.rows.invariant.1 tables stands) c.first_aside.ensures.same) pair.0 ts among
          (c.first_aside.ensures.leaves ts (c.rows.invariant.2 tables stands ts among stops)),
    )

pub returns-in_err-key-clause-left : goal.returns-in_err-key-clause-left
returns-in_err-key-clause-left g c = λ tables stands. inr (stands_moved tables _ _ (c.rows.invariant.1 tables stands) c.first_aside.ensures.same)

pub returns-in_err-key-clause-leaves : goal.returns-in_err-key-clause-leaves
returns-in_err-key-clause-leaves g c = λ tables stands ts among stops. c.first_aside.ensures.leaves ts (c.rows.invariant.2 tables stands ts among stops)

pub returns-in_err-carry-in-Some-clause-left : goal.returns-in_err-carry-in-Some-clause-left
returns-in_err-carry-in-Some-clause-left g c = λ tables stands.
    let pair = first_pair_moved (maps_of c.rows.home (λ z. (goal.Segment-dyn g z).holding z.1)).put _ (6 ∷ []) c.in-Some.key c.in-Some.aside _ c.first_aside.ensures.same c.in-Some.is c.in_ok-key.ensures.first in
    inr (c.carry.ensures.stands tables (stands_moved tables _ _ (c.rows.invariant.1 tables stands) c.first_aside.ensures.same) pair.0)

pub returns-in_err-carry-in-Some-clause-leaves : goal.returns-in_err-carry-in-Some-clause-leaves
returns-in_err-carry-in-Some-clause-leaves g c = λ tables stands ts among stops.
    let pair = first_pair_moved (maps_of c.rows.home (λ z. (goal.Segment-dyn g z).holding z.1)).put _ (6 ∷ []) c.in-Some.key c.in-Some.aside _ c.first_aside.ensures.same c.in-Some.is c.in_ok-key.ensures.first in
    c.carry.ensures.leaves tables (stands_moved tables _ _ (c.rows.invariant.1 tables stands) c.first_aside.ensures.same) pair.0 ts among
    (c.first_aside.ensures.leaves ts (c.rows.invariant.2 tables stands ts among stops))

pub returns-in-None-clause-done : goal.returns-in-None-clause-done
returns-in-None-clause-done g c = λ tables stands.
    let none = none_aside_moved _ _ _ c.first_aside.ensures.same c.in-None.is c.in_ok-key.ensures.first in
    c.end_batch.ensures.done tables (stands_moved tables _ _ (c.rows.invariant.1 tables stands) c.first_aside.ensures.same) none

pub returns-in-None-clause-left : goal.returns-in-None-clause-left
returns-in-None-clause-left g c = λ tables stands.
    let none = none_aside_moved _ _ _ c.first_aside.ensures.same c.in-None.is c.in_ok-key.ensures.first in
    c.end_batch.ensures.left tables (stands_moved tables _ _ (c.rows.invariant.1 tables stands) c.first_aside.ensures.same) none

pub returns-in-None-clause-leaves : goal.returns-in-None-clause-leaves
returns-in-None-clause-leaves g c = λ tables stands ts among stops.
    let none = none_aside_moved _ _ _ c.first_aside.ensures.same c.in-None.is c.in_ok-key.ensures.first in
    c.end_batch.ensures.leaves tables (stands_moved tables _ _ (c.rows.invariant.1 tables stands) c.first_aside.ensures.same) none ts among
    (c.first_aside.ensures.leaves ts (c.rows.invariant.2 tables stands ts among stops))

pub returns-clause-left : goal.returns-clause-left
returns-clause-left g c = λ tables stands. inr (c.rows.invariant.1 tables stands)

pub returns-clause-leaves : goal.returns-clause-leaves
returns-clause-leaves g c = c.rows.invariant.2

pub returns-in-None-clause-none : goal.returns-in-None-clause-none
returns-in-None-clause-none g c = on_any c.end_batch.result (c.end_batch.ensures.none (none_aside_moved _ _ _ c.first_aside.ensures.same c.in-None.is c.in_ok-key.ensures.first))
