use Rattle.std.proofs.Common.{false}
use Rattle.bw_core.proofs.Machines.{flush_steps, may_leave}
use Rattle.bw_core.proofs.SettledMore.{flush_settled}
use Rattle.bw_core.proofs.GoesMore.{goes_flushed}
use Rattle.bw_core.proofs.store.Core.flush.Goals as goal

pub returns-clause-settled : goal.returns-clause-settled
returns-clause-settled g c = flush_settled _ _ c.flush_making.result c.flush_making.ensures.keeps.sound c.flush_making.ensures.answers c.flush_making.ensures.leaves

pub returns-clause-goes : goal.returns-clause-goes
returns-clause-goes g c = goes_flushed _ _ _ _ c.flush_making.ensures.keeps c.flush_making.ensures.leaves

pub returns-clause-steps : goal.returns-clause-steps
returns-clause-steps g c = flush_steps false _ _ _ c.requires.sound c.flush_making.ensures.answers c.flush_making.ensures.leaves

pub returns-clause-may_leave : goal.returns-clause-may_leave
returns-clause-may_leave g c = may_leave _ c.flush_making.ensures.keeps.sound
