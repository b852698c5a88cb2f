use Rattle.bw_calls.proofs.naming.free_number.Goals as goal

pub returns-clause-leaves : goal.returns-clause-leaves
returns-clause-leaves g c = λ ts stops. c.free_from.ensures.leaves ts (c.next_number.ensures.leaves ts stops)
