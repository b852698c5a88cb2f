use Rattle.std.proofs.Common.{◌∙◌}
use Rattle.bw_calls.proofs.naming.next_number.Goals as goal

pub returns-in_err-key-clause-leaves : goal.returns-in_err-key-clause-leaves
returns-in_err-key-clause-leaves g c = λ ts stops. c.below.ensures.leaves ts (c.names.invariant.2 ts stops)

pub returns-in_default-clause-leaves : goal.returns-in_default-clause-leaves
returns-in_default-clause-leaves g c = λ ts stops. c.below.ensures.leaves ts (c.names.invariant.2 ts stops)

pub returns-then-kind_of-ne-NAME-clause-leaves : goal.returns-then-kind_of-ne-NAME-clause-leaves
returns-then-kind_of-ne-NAME-clause-leaves g c = λ ts stops. c.below.ensures.leaves ts (c.names.invariant.2 ts stops)

pub names-preserved : goal.names-preserved
names-preserved g c = (
  c.below.ensures.ready,
  c.below.ensures.same ∙ c.names.invariant.1,
  λ ts stops. c.below.ensures.leaves ts (c.names.invariant.2 ts stops),
)
