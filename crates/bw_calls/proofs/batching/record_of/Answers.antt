use Rattle.bw_calls.proofs.batching.record_of.Goals as goal

pub returns-in_err-head_of-clause-leaves : goal.returns-in_err-head_of-clause-leaves
returns-in_err-head_of-clause-leaves g c = λ ts stops. c.head_of.ensures.leaves ts (c.number_of.ensures.leaves ts stops)

pub returns-in-Some-2-clause-leaves : goal.returns-in-Some-2-clause-leaves
returns-in-Some-2-clause-leaves g c = λ ts stops. c.head_of.ensures.leaves ts (c.number_of.ensures.leaves ts stops)

pub returns-in-None-clause-leaves : goal.returns-in-None-clause-leaves
returns-in-None-clause-leaves g c = λ ts stops. c.head_of.ensures.leaves ts (c.number_of.ensures.leaves ts stops)
