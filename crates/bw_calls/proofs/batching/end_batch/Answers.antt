use Rattle.std.proofs.Common.{inl}
use Rattle.bw_calls.proofs.BatchLaws.{ended, ended_left, none_still}
use Rattle.bw_calls.proofs.NameLaws.{marks_after}
use Rattle.bw_calls.proofs.batching.end_batch.Goals as goal

pub returns-clause-done : goal.returns-clause-done
returns-clause-done g c = λ tables stands none. ended tables _ _ c.batch_end.result c.prepare.result c.batch_end.ensures.ends stands none c.prepare.ensures.changed

pub returns-clause-left : goal.returns-clause-left
returns-clause-left g c = λ tables stands none. ended_left tables _ _ c.batch_end.result c.prepare.result c.batch_end.ensures.ends stands none c.prepare.ensures.changed c.prepare.ensures.refused

pub returns-clause-leaves : goal.returns-clause-leaves
returns-clause-leaves g c = λ tables stands none ts among stops.
    c.prepare.ensures.leaves ts (tables, among, inl (c.batch_end.ensures.ends tables _ stands none)) stops

pub returns-clause-none : goal.returns-clause-none
returns-clause-none g c = λ none. none_still _ _ (marks_after _ _ c.batch_end.result c.prepare.result c.batch_end.ensures.marks c.prepare.ensures.changed c.prepare.ensures.refused) none
