use Rattle.std.proofs.Common.{◌∙◌}
use Rattle.bw_calls.proofs.naming.free_from.Goals as goal

pub returns-in_err-is_free-clause-leaves : goal.returns-in_err-is_free-clause-leaves
returns-in_err-is_free-clause-leaves g c = λ ts stops. c.is_free.ensures.leaves ts (c.numbers.invariant.2 ts stops)

pub returns-then-branch-clause-leaves : goal.returns-then-branch-clause-leaves
returns-then-branch-clause-leaves g c = λ ts stops. c.is_free.ensures.leaves ts (c.numbers.invariant.2 ts stops)

pub numbers-preserved : goal.numbers-preserved
numbers-preserved g c = (
  c.is_free.ensures.ready,
  c.is_free.ensures.same ∙ c.numbers.invariant.1,
  λ ts stops. c.is_free.ensures.leaves ts (c.numbers.invariant.2 ts stops),
)
