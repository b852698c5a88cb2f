use Rattle.bw_core.proofs.Machines.{is_machine}
use Rattle.bw_core.proofs.store.Core.durable_end.Goals as goal

pub returns-then-self-eq0-clause-machine : goal.returns-then-self-eq0-clause-machine
returns-then-self-eq0-clause-machine g c = is_machine _ c.requires c.args.self.now.intake.grouped c.args.self.now.whole

pub returns-clause-machine : goal.returns-clause-machine
returns-clause-machine g c = is_machine _ c.requires c.args.self.now.intake.grouped c.args.self.now.whole
