use Rattle.std.proofs.Common.{ap}
use Rattle.bw_store.specs.Kept.{Kept}
use Rattle.bw_home.proofs.Beginning.{begins_shared, begun_shared}
use Rattle.bw_home.proofs.shared.SharedHome.reopen.Goals as goal

pub returns-in-Ok-clause-begins : goal.returns-in-Ok-clause-begins
returns-in-Ok-clause-begins g c =
    λ held found.
    begins_shared held _ _ (λ z. (goal.Segment-dyn g z).holding z.1) c.of.ensures.store (c.in-Ok.ensures.begins held found)

pub returns-in-Ok-clause-begun : goal.returns-in-Ok-clause-begun
returns-in-Ok-clause-begun g c =
    let made = c.in-Ok.ensures.made in
    begun_shared _ _ _ _ _ _ c.of.ensures.store c.of.ensures.feeds c.in-Ok.ensures.feeds (ap (λ (s : Kept). s.entries) made) (ap (λ (s : Kept). s.cuts) made)
