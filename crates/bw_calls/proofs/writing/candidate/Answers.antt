use Rattle.bw_calls.proofs.writing.candidate.Goals as goal

pub returns-in_err-doomed-clause-leaves : goal.returns-in_err-doomed-clause-leaves
returns-in_err-doomed-clause-leaves g c = λ ts stops. c.behind.ensures.leaves ts (c.first_of.ensures.leaves ts stops)

pub returns-clause-leaves : goal.returns-clause-leaves
returns-clause-leaves g c = λ ts stops. c.above.ensures.leaves ts (c.behind.ensures.leaves ts (c.first_of.ensures.leaves ts stops))
