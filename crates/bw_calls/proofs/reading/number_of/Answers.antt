use Rattle.bw_calls.proofs.reading.number_of.Goals as goal

pub returns-in_err-row-clause-leaves : goal.returns-in_err-row-clause-leaves
returns-in_err-row-clause-leaves g c = λ ts stops. c.get.ensures.leaves ts (c.check.ensures.leaves ts stops)

pub returns-in_default-clause-leaves : goal.returns-in_default-clause-leaves
returns-in_default-clause-leaves g c = λ ts stops. c.get.ensures.leaves ts (c.check.ensures.leaves ts stops)

pub returns-in_err-number_in-clause-leaves : goal.returns-in_err-number_in-clause-leaves
returns-in_err-number_in-clause-leaves g c = λ ts stops. c.get.ensures.leaves ts (c.check.ensures.leaves ts stops)

pub returns-clause-leaves : goal.returns-clause-leaves
returns-clause-leaves g c = λ ts stops. c.get.ensures.leaves ts (c.check.ensures.leaves ts stops)
