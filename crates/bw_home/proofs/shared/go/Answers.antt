use Rattle.std.proofs.Common.{refl}
use Rattle.bw_home.proofs.Readings.{shared_by_kind, shared_from_kind}
use Rattle.bw_home.proofs.shared.go.Goals as goal

pub legs-init : goal.legs-init
legs-init g c = (
  tt,
  tt,
  shared_by_kind (record { first = λ _ _ _. refl; second = λ _ _ _. refl }) c.in-Ok.ensures.ready,
  λ answer says. says,
  λ begins. c.in-Ok.ensures.begun,
)

pub next_made-requires : goal.next_made-requires
next_made-requires g c = shared_from_kind (record { first = λ _ _ _. refl; second = λ _ _ _. refl }) c.legs.invariant.2

-- whichever segment is added
pub legs-preserved-in-Some-next_made : goal.legs-preserved-in-Some-next_made
legs-preserved-in-Some-next_made g c = (
  tt,
  tt,
  shared_by_kind (record { first = λ _ _ _. refl; second = λ _ _ _. refl }) c.add.ensures.ready,
  c.legs.invariant.3,
  λ begins. c.add.ensures.begun (c.next_made.ensures.begun (c.legs.invariant.4 begins)),
)

pub leg-requires-clause-begun : goal.leg-requires-clause-begun
leg-requires-clause-begun g c = λ begins. c.next_made.ensures.begun (c.legs.invariant.4 begins)

pub returns-in-Some-leg-clause-answer : goal.returns-in-Some-leg-clause-answer
returns-in-Some-leg-clause-answer g c = c.legs.invariant.3 _ c.in-Some-leg.ensures.answer

pub legs-preserved : goal.legs-preserved
legs-preserved g c = (
  tt,
  tt,
  shared_by_kind (record { first = λ _ _ _. refl; second = λ _ _ _. refl }) c.leg.ensures.ready,
  λ answer says. c.legs.invariant.3 answer (c.in_default-leg.ensures.answer answer says),
  λ begins. absurd (c.in_default-leg.ensures.begun refl begins),
)
