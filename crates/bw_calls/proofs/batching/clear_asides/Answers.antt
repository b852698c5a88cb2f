use Rattle.std.proofs.Common.{[], ◌∷◌}
use Rattle.bw_calls.specs.Standing.{plain_in}
use Rattle.bw_calls.proofs.PlainLaws.{moved, behind}
use Rattle.bw_calls.proofs.LeaveLaws.{in_its}
use Rattle.bw_calls.proofs.BatchLaws.{first_pair, none_aside_moved}
use Rattle.bw_calls.proofs.batching.clear_asides.Goals as goal

pub rows-preserved : goal.rows-preserved
rows-preserved g c = (
  c.drop_aside.ensures.ready,
  λ lawful.
      let h = moved _ _ _ (c.rows.invariant.1 lawful) c.first_aside.ensures.same in
      let pair = first_pair (plain_in c.rows.home (λ z. (goal.Segment-dyn g z).holding z.1)) (6 ∷ []) c.in-Some.key _ _ c.in-Some.is c.in_ok-key.ensures.first in
      behind _ _ _ h (c.drop_aside.ensures.stays h.lawful pair.1),
  λ lawful ts among stops.
      let h = moved _ _ _ (c.rows.invariant.1 lawful) c.first_aside.ensures.same in
      let pair = first_pair (plain_in c.rows.home (λ z. (goal.Segment-dyn g z).holding z.1)) (6 ∷ []) c.in-Some.key _ _ c.in-Some.is c.in_ok-key.ensures.first in
      c.drop_aside.ensures.leaves h.lawful pair.1 ts (in_its ts _ _ h among) (c.first_aside.ensures.leaves ts (c.rows.invariant.2 lawful ts among stops)),
)

pub returns-in_err-key-clause-stays : goal.returns-in_err-key-clause-stays
returns-in_err-key-clause-stays g c = λ lawful. moved _ _ _ (c.rows.invariant.1 lawful) c.first_aside.ensures.same

pub returns-in_err-key-clause-leaves : goal.returns-in_err-key-clause-leaves
returns-in_err-key-clause-leaves g c = λ lawful ts among stops. c.first_aside.ensures.leaves ts (c.rows.invariant.2 lawful ts among stops)

pub returns-in_err-drop_aside-in-Some-clause-stays : goal.returns-in_err-drop_aside-in-Some-clause-stays
returns-in_err-drop_aside-in-Some-clause-stays g c = λ lawful.
    let h = moved _ _ _ (c.rows.invariant.1 lawful) c.first_aside.ensures.same in
    let pair = first_pair (plain_in c.rows.home (λ z. (goal.Segment-dyn g z).holding z.1)) (6 ∷ []) c.in-Some.key _ _ c.in-Some.is c.in_ok-key.ensures.first in
    behind _ _ _ h (c.drop_aside.ensures.stays h.lawful pair.1)

pub returns-in_err-drop_aside-in-Some-clause-leaves : goal.returns-in_err-drop_aside-in-Some-clause-leaves
returns-in_err-drop_aside-in-Some-clause-leaves g c = λ lawful ts among stops.
    let h = moved _ _ _ (c.rows.invariant.1 lawful) c.first_aside.ensures.same in
    let pair = first_pair (plain_in c.rows.home (λ z. (goal.Segment-dyn g z).holding z.1)) (6 ∷ []) c.in-Some.key _ _ c.in-Some.is c.in_ok-key.ensures.first in
    c.drop_aside.ensures.leaves h.lawful pair.1 ts (in_its ts _ _ h among) (c.first_aside.ensures.leaves ts (c.rows.invariant.2 lawful ts among stops))

pub returns-in-None-clause-stays : goal.returns-in-None-clause-stays
returns-in-None-clause-stays g c = λ lawful. moved _ _ _ (c.rows.invariant.1 lawful) c.first_aside.ensures.same

pub returns-in-None-clause-none : goal.returns-in-None-clause-none
returns-in-None-clause-none g c = none_aside_moved _ _ _ c.first_aside.ensures.same c.in-None.is c.in_ok-key.ensures.first

pub returns-in-None-clause-leaves : goal.returns-in-None-clause-leaves
returns-in-None-clause-leaves g c = λ lawful ts among stops. c.first_aside.ensures.leaves ts (c.rows.invariant.2 lawful ts among stops)
