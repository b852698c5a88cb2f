use Rattle.std.proofs.Common.{[], sym, ap, ◌∙◌}
use Rattle.bw_page.specs.Shown.{Shown}
use Rattle.bw_core.specs.Kept as kept
use Rattle.bw_core.specs.Opened.{one_empty}
use Rattle.bw_terms.specs.declared.config.Config.{Config}
use Rattle.bw_store.proofs.Forwards.{begun_sound}
use Rattle.bw_store.proofs.store.Store.open.Goals as goal

pub returns-in-Ok-open-clause-sound : goal.returns-in-Ok-open-clause-sound
returns-in-Ok-open-clause-sound g c =
    begun_sound _ _ _ _ c.in-Ok-open.ensures.sound c.in-Ok.ensures
    (ap (λ (x : Config). one_empty x.m) (sym c.without_readers-limits.ensures)
    ∙ sym (ap (λ (k : kept.Kept). let l : Shown = record { m = k.filed.m; leaves = k.start; evicted = [] } in l) c.in-Ok-open.ensures.made))
