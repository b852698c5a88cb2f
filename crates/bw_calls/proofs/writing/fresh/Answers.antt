use Rattle.bw_calls.proofs.PlainLaws.{unnamed_told}
use Rattle.bw_calls.proofs.OtherLaws.{first_told}
use Rattle.bw_calls.proofs.writing.fresh.Goals as goal

pub returns-in-None-clause-unnamed : goal.returns-in-None-clause-unnamed
returns-in-None-clause-unnamed g c = λ lawful.
    unnamed_told _ _ c.in_ok-number.number.bytes c.chunk_key.result _ lawful c.candidate.ensures.same c.in-None.is c.in_ok-get.ensures.value c.chunk_key.ensures

pub returns-in_err-get-clause-leaves : goal.returns-in_err-get-clause-leaves
returns-in_err-get-clause-leaves g c = λ ts stops. c.get.ensures.leaves ts (c.candidate.ensures.leaves ts stops)

pub returns-in-Some-clause-leaves : goal.returns-in-Some-clause-leaves
returns-in-Some-clause-leaves g c = λ ts stops. c.get.ensures.leaves ts (c.candidate.ensures.leaves ts stops)

pub returns-in-None-clause-leaves : goal.returns-in-None-clause-leaves
returns-in-None-clause-leaves g c = λ ts stops. c.get.ensures.leaves ts (c.candidate.ensures.leaves ts stops)

pub returns-in-None-clause-first : goal.returns-in-None-clause-first
returns-in-None-clause-first g c =
    first_told _ _ c.in_ok-number.number.bytes c.chunk_key.result _ c.candidate.ensures.same c.in-None.is c.in_ok-get.ensures.value c.chunk_key.ensures
