use Rattle.std.proofs.Common.{rules}
use Rattle.bw_core.proofs.Logs.{log_sound, log_follows, rolled_counts}
use Rattle.bw_core.proofs.store.Core.roll.Goals as goal

pub returns-clause-goes : goal.returns-clause-goes
returns-clause-goes g c = record {
  sound = log_sound _ _ c.requires (rolled_counts _ _ c.roll.ensures.sound c.roll.ensures.closed);
  follows = log_follows _ _;
  boxes = search rules;
  noted = search rules;
}
