use Rattle.std.proofs.Common.{ℕ, List, [], sym, ap, ◌∙◌}
use Rattle.bw_page.specs.Shown.{Shown}
use Rattle.bw_core.specs.Kept as kept
use Rattle.bw_store.proofs.Forwards.{begun_sound}
use Rattle.bw_store.proofs.store.Store.reopen_warm.Goals as goal

pub returns-in-Ok-reopen-clause-sound : goal.returns-in-Ok-reopen-clause-sound
returns-in-Ok-reopen-clause-sound g c =
    begun_sound _ _ _ _ c.in-Ok-reopen.ensures.sound c.in-Ok.ensures
    (ap (λ (e : List ℕ). let l : Shown = record { m = c.args.recovered.leaves.m; leaves = c.args.recovered.leaves.leaves; evicted = e } in l) c.requires.here
    ∙ sym (ap (λ (k : kept.Kept). let l : Shown = record { m = k.filed.m; leaves = k.start; evicted = [] } in l) c.in-Ok-reopen.ensures.made))
