use Rattle.std.proofs.lemmas.Result.{err_from_is_err_and}
use Rattle.bw_care.proofs.SurveyFacts.{facts, ready, first_is, last_is, link_none, forward_refuses, page_refuses}
use Rattle.bw_care.proofs.FindingsMade.{planned_all}
use Rattle.bw_care.proofs.steps.findings_of.Goals as goal

pub read_forward-requires : goal.read_forward-requires
read_forward-requires g c = (_, ready _ c.args.survey c.requires c.deref-3.result.now c.deref-3.ensures.value)

pub returns-in_err-lines-clause-refuses : goal.returns-in_err-lines-clause-refuses
returns-in_err-lines-clause-refuses g c =
    let p = err_from_is_err_and c.from_residual.result c.from_residual.ensures.1 in
    rw (p.1, p.2) (forward_refuses _ _ c.args.survey c.requires c.first_of-first.result c.in_err-lines.field-0.0
    (first_is _ c.args.survey c.requires _ _ c.first_of-first.ensures c.deref.ensures.value)
    (c.in_err-lines.ensures.stops _ (ready _ c.args.survey c.requires c.deref-3.result.now c.deref-3.ensures.value)))

pub pages_of-requires-clause-limit : goal.pages_of-requires-clause-limit
pages_of-requires-clause-limit g c = (facts _ c.args.survey c.requires).pairs

pub pages_of-requires-clause-read : goal.pages_of-requires-clause-read
pages_of-requires-clause-read g c =
    let y = facts _ c.args.survey c.requires in
    let read = c.in_ok-lines.ensures.read _ (ready _ c.args.survey c.requires c.deref-3.result.now c.deref-3.ensures.value) in
    (_, y.frames, y.some, read.lines)

pub returns-in_err-leaves-clause-refuses : goal.returns-in_err-leaves-clause-refuses
returns-in_err-leaves-clause-refuses g c =
    let p = err_from_is_err_and c.from_residual-in_err-leaves.result c.from_residual-in_err-leaves.ensures.1 in
    let y = facts _ c.args.survey c.requires in
    let read = c.in_ok-lines.ensures.read _ (ready _ c.args.survey c.requires c.deref-3.result.now c.deref-3.ensures.value) in
    rw (p.1, p.2) (page_refuses _ _ c.args.survey c.requires c.in_err-leaves.field-0.0
    (link_none _ c.first_of-first.result (first_is _ c.args.survey c.requires _ _ c.first_of-first.ensures c.deref.ensures.value) read.linked)
    c.in_ok-lines.ensures.same (c.in_err-leaves.ensures.fault _ y.frames read.lines))

pub returns-clause-findings : goal.returns-clause-findings
returns-clause-findings g c =
    let y = facts _ c.args.survey c.requires in
    let read = c.in_ok-lines.ensures.read _ (ready _ c.args.survey c.requires c.deref-3.result.now c.deref-3.ensures.value) in
    planned_all _ c.args.survey c.requires c.in_ok-leaves.field-0 c.first_of-first.result c.last_of-last.result
    (first_is _ c.args.survey c.requires _ _ c.first_of-first.ensures c.deref.ensures.value)
    (last_is _ c.args.survey c.requires _ _ c.last_of-last.ensures c.deref-2.ensures.value) read.linked
    (c.in_ok-leaves.ensures.right _ y.frames read.lines) c.in_ok-leaves.ensures.away
