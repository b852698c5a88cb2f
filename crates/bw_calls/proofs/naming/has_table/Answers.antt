use Rattle.std.proofs.Common.{◌∙◌}
use Rattle.bw_calls.proofs.NameLaws.{below_more, none_at_last, taken_told}
use Rattle.bw_calls.proofs.naming.has_table.Goals as goal

pub returns-in_err-look-clause-leaves : goal.returns-in_err-look-clause-leaves
returns-in_err-look-clause-leaves g c = λ ts stops. c.look.ensures.leaves ts (c.names.invariant.2 ts stops)

pub returns-in-Taken-clause-leaves : goal.returns-in-Taken-clause-leaves
returns-in-Taken-clause-leaves g c = λ ts stops. c.look.ensures.leaves ts (c.names.invariant.2 ts stops)

pub returns-in-Last-clause-leaves : goal.returns-in-Last-clause-leaves
returns-in-Last-clause-leaves g c = λ ts stops. c.look.ensures.leaves ts (c.names.invariant.2 ts stops)

pub returns-in-Last-clause-none : goal.returns-in-Last-clause-none
returns-in-Last-clause-none g c = λ is. none_at_last _ _ c.names.at c.args.table.bytes _ c.names.invariant.1 c.in-Last.is c.in_ok-look.ensures.looked c.names.invariant.3

pub names-preserved : goal.names-preserved
names-preserved g c = (
  c.look.ensures.ready,
  c.look.ensures.same ∙ c.names.invariant.1,
  λ ts stops. c.look.ensures.leaves ts (c.names.invariant.2 ts stops),
  below_more _ _ c.names.at c.in-Below.next c.args.table.bytes _ c.names.invariant.1 c.in-Below.is c.in_ok-look.ensures.looked c.names.invariant.3,
)

pub returns-in-Taken-clause-has : goal.returns-in-Taken-clause-has
returns-in-Taken-clause-has g c = λ is. taken_told _ _ c.names.at c.args.table.bytes _ c.names.invariant.1 c.in-Taken.is c.in_ok-look.ensures.looked
