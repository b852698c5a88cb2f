use Rattle.bw_calls.proofs.PlainLaws.{number_told, value_told}
use Rattle.bw_calls.proofs.reading.get.Goals as goal

pub returns-in_ok-value_of-in-Some-2-clause-value : goal.returns-in_ok-value_of-in-Some-2-clause-value
returns-in_ok-value_of-in-Some-2-clause-value g c = λ lawful.
    let number = number_told _ c.in-Some.table _ c.args.name.now c.in-Some.is c.in_ok-table.ensures.number in
    value_told _ _ _ c.args.name.now c.in-Some.table.bytes c.args.key.now c.row_key.result c.in-Some-2.row c.as_slice.result.now _ _ lawful
    c.number_of.ensures.same c.get.ensures.same number c.in-Some-2.is c.in_ok-row.ensures.value c.row_key.ensures c.as_slice.ensures.value
    c.in_ok-value_of-in-Some-2.ensures.value

pub returns-in_err-row-clause-leaves : goal.returns-in_err-row-clause-leaves
returns-in_err-row-clause-leaves g c = λ ts stops. c.get.ensures.leaves ts (c.number_of.ensures.leaves ts stops)

pub returns-in_err-value_of-in-Some-2-clause-leaves : goal.returns-in_err-value_of-in-Some-2-clause-leaves
returns-in_err-value_of-in-Some-2-clause-leaves g c = λ ts stops. c.value_of.ensures.leaves ts (c.get.ensures.leaves ts (c.number_of.ensures.leaves ts stops))

pub returns-in_ok-value_of-in-Some-2-clause-leaves : goal.returns-in_ok-value_of-in-Some-2-clause-leaves
returns-in_ok-value_of-in-Some-2-clause-leaves g c = λ ts stops. c.value_of.ensures.leaves ts (c.get.ensures.leaves ts (c.number_of.ensures.leaves ts stops))

pub returns-in-None-clause-leaves : goal.returns-in-None-clause-leaves
returns-in-None-clause-leaves g c = λ ts stops. c.get.ensures.leaves ts (c.number_of.ensures.leaves ts stops)
