use Rattle.std.proofs.Common.{List, Some, Err, ap, sym, ◌∙◌, rules}
use Rattle.bw_record.specs.declared.record.Record.{Record}
use Rattle.bw_record.specs.declared.leaf.Leaf.{Leaf}
use Rattle.bw_leaf.specs.Changed.{all_changed}
use Rattle.bw_core.proofs.Logs.{log_sound, read_counts}
use Rattle.bw_core.proofs.EvictedPages.{evicted_page, evicted_refused}
use Rattle.bw_core.proofs.store.Core.read_evicted.Goals as goal

pub returns-in-Err-clause-looks : goal.returns-in-Err-clause-looks
returns-in-Err-clause-looks g c = record {
  sound = log_sound _ _ c.requires.sound (read_counts _ _ c.in-Err.ensures.sound c.in-Err.ensures.kept);
  pages = search rules;
  read = search rules;
  leaves = rw c.from.ensures
      (evicted_refused _ c.requires.sound c.args.page c.requires.inside.0 c.requires.inside.1 (c.args.self.now.pages.logged c.args.page c.requires.evicted)
      Leaf _ _ c.in-Err.fault c.in-Err.ensures.stops (λ e. c.in-Err.ensures.no_page.0 (ap Err e)));
  noted = search rules;
}

pub returns-clause-leaf : goal.returns-clause-leaf
returns-clause-leaf g c =
    evicted_page _ c.requires.sound c.args.page c.requires.inside.0 c.requires.inside.1 (c.args.self.now.pages.logged c.args.page c.requires.evicted)
    c.in-Ok.below c.in-Ok.ensures.page
    ∙ ap (λ (rs : List Record). Some (all_changed rs c.in-Ok.below)) (sym (c.as_slice.ensures.value ∙ c.in_ok-overlay.ensures))
    ∙ ap Some (sym c.in_ok-change_all.ensures)
