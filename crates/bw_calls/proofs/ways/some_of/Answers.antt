use Rattle.bw_calls.proofs.ways.some_of.Goals as goal

pub returns-in-None-clause-leaves : goal.returns-in-None-clause-leaves
returns-in-None-clause-leaves g c = λ ts stops. c.first.ensures.leaves ts (c.from.ensures.leaves ts stops)
