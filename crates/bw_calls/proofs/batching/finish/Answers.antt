use Rattle.std.proofs.Common.{inl}
use Rattle.bw_calls.proofs.PlainLaws.{behind}
use Rattle.bw_calls.proofs.LeaveLaws.{in_its}
use Rattle.bw_calls.proofs.batching.finish.Goals as goal

pub returns-in_err-carry_all-clause-left : goal.returns-in_err-carry_all-clause-left
returns-in_err-carry_all-clause-left g c = λ tables stands. c.carry_all.ensures.left tables stands

pub returns-in_err-carry_all-clause-leaves : goal.returns-in_err-carry_all-clause-leaves
returns-in_err-carry_all-clause-leaves g c = λ tables stands ts among stops. c.carry_all.ensures.leaves tables stands ts among stops

pub returns-clause-left : goal.returns-clause-left
returns-clause-left g c = λ tables stands.
    let h = c.in_ok-carry_all.ensures.done tables stands in
    inl (behind _ _ _ h (c.collect_all.ensures.stays h.lawful))

pub returns-clause-leaves : goal.returns-clause-leaves
returns-clause-leaves g c = λ tables stands ts among stops.
    let h = c.in_ok-carry_all.ensures.done tables stands in
    c.collect_all.ensures.leaves h.lawful ts (in_its ts _ _ h among) (c.carry_all.ensures.leaves tables stands ts among stops)
