use Rattle.std.proofs.Common.{◌∙◌, ap, sym}
use Rattle.bw_terms.specs.Told.{fault_of}
use Rattle.bw_core.proofs.Logs.{added_counts, log_follows, log_sound, only_bad}
use Rattle.bw_core.proofs.store.Core.add_segment.Goals as goal

pub returns-in-Ok-clause-sound : goal.returns-in-Ok-clause-sound
returns-in-Ok-clause-sound g c =
    log_sound _ _ c.requires (added_counts _ _ _ c.in-Ok.ensures.sound c.in-Ok.ensures.added)

pub returns-in-Ok-clause-follows : goal.returns-in-Ok-clause-follows
returns-in-Ok-clause-follows g c = log_follows _ _

pub returns-in-Err-clause-follows : goal.returns-in-Err-clause-follows
returns-in-Err-clause-follows g c = log_follows _ _

pub returns-in-Err-clause-bad_config : goal.returns-in-Err-clause-bad_config
returns-in-Err-clause-bad_config g c =
    (λ e. c.in-Err.ensures.bad_config.0 (only_bad _ (sym c.from.ensures ∙ e)), λ none. c.from.ensures ∙ ap fault_of (c.in-Err.ensures.bad_config.1 none))
