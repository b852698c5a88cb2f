use Rattle.std.proofs.Common.{ap, ◌∙◌}
use Rattle.bw_history.specs.History.{is_grouped}
use Rattle.bw_history.proofs.Laned.{rest_grouped}
use Rattle.bw_core.proofs.store.Core.history.Goals as goal

pub returns-clause-grouped : goal.returns-clause-grouped
returns-clause-grouped g c = ap is_grouped c.kept.ensures.value ∙ rest_grouped c.args.self.now.intake.history.gone _ c.args.self.now.intake.grouped
