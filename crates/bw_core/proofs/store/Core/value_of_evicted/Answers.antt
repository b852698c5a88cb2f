use Rattle.std.proofs.Common.{Option, Err, ap, sym, ◌∙◌, rules}
use Rattle.bw_record.specs.declared.key.Value.{Value}
use Rattle.bw_core.proofs.Logs.{log_sound, read_counts}
use Rattle.bw_core.proofs.EvictedPages.{evicted_refused, told_value}
use Rattle.bw_core.proofs.store.Core.value_of_evicted.Goals as goal

pub returns-in-Gone-clause-value : goal.returns-in-Gone-clause-value
returns-in-Gone-clause-value g c =
    told_value _ c.requires.sound _ c.requires.inside.0 c.requires.inside.1 (c.args.self.now.pages.logged _ c.requires.evicted) _ _ (sym c.in-Gone.is ∙ c.in_ok-word.ensures)

pub returns-in-Holds-clause-value : goal.returns-in-Holds-clause-value
returns-in-Holds-clause-value g c =
    told_value _ c.requires.sound _ c.requires.inside.0 c.requires.inside.1 (c.args.self.now.pages.logged _ c.requires.evicted) _ _
    (sym c.in-Holds.is ∙ c.in_ok-word.ensures)

pub returns-in-Ok-clause-value : goal.returns-in-Ok-clause-value
returns-in-Ok-clause-value g c = c.in-Ok.ensures.value
    ∙ told_value _ c.requires.sound _ c.requires.inside.0 c.requires.inside.1 (c.args.self.now.pages.logged _ c.requires.evicted) _ _
    (sym c.in-Silent.is ∙ c.in_ok-word.ensures)

pub returns-in-Err-clause-looks : goal.returns-in-Err-clause-looks
returns-in-Err-clause-looks g c = record {
  sound = log_sound _ _ c.requires.sound (read_counts _ _ c.in-Err.ensures.sound c.in-Err.ensures.kept);
  pages = search rules;
  read = search rules;
  leaves = rw c.from.ensures
      (evicted_refused _ c.requires.sound c.args.page c.requires.inside.0 c.requires.inside.1 (c.args.self.now.pages.logged c.args.page c.requires.evicted)
      (Option Value) _ _ c.in-Err.fault c.in-Err.ensures.stops (λ e. c.in-Err.ensures.no_page.0 (ap Err e)));
  noted = search rules;
}
