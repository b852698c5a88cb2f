use Rattle.std.proofs.Common.{rules}
use Rattle.bw_core.specs.Views.{kept_by}
use Rattle.bw_core.proofs.Logs.{log_follows, log_sound, read_counts}
use Rattle.bw_core.proofs.store.Core.dump.Goals as goal

pub returns-in-Ok-clause-goes : goal.returns-in-Ok-clause-goes
returns-in-Ok-clause-goes g c = record {
  sound = search rules;
  follows = log_follows _ _;
  boxes = search rules;
  noted = search rules;
}

pub returns-in-Err-clause-goes : goal.returns-in-Err-clause-goes
returns-in-Err-clause-goes g c = record {
  sound = (
      let s = kept_by c.args.self.now (λ z. (goal.Segment-dyn g z).holding z.1) in
      log_sound s _ c.requires (read_counts s.log _ c.in-Err.ensures.sound c.in-Err.ensures.kept));
  follows = log_follows _ _;
  boxes = search rules;
  noted = search rules;
}
