use Rattle.bw_calls.proofs.naming.is_free.Goals as goal

pub returns-in_err-first_row-clause-leaves : goal.returns-in_err-first_row-clause-leaves
returns-in_err-first_row-clause-leaves g c = λ ts stops. c.first_row.ensures.leaves ts (c.has_table.ensures.leaves ts stops)

pub returns-in-Some-clause-leaves : goal.returns-in-Some-clause-leaves
returns-in-Some-clause-leaves g c = λ ts stops. c.first_row.ensures.leaves ts (c.has_table.ensures.leaves ts stops)

pub returns-in-None-clause-leaves : goal.returns-in-None-clause-leaves
returns-in-None-clause-leaves g c = λ ts stops. c.first_row.ensures.leaves ts (c.has_table.ensures.leaves ts stops)
