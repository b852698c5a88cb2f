use Rattle.std.proofs.Common.{ap}
use Rattle.bw_store.specs.Kept.{Kept}
use Rattle.bw_home.proofs.Beginning.{begun_shared}
use Rattle.bw_home.proofs.shared.SharedHome.open.Goals as goal

pub returns-in-Ok-clause-begun : goal.returns-in-Ok-clause-begun
returns-in-Ok-clause-begun g c =
    let made = c.in-Ok.ensures.made in
    begun_shared _ _ _ _ _ _ c.of.ensures.store c.of.ensures.feeds c.in-Ok.ensures.feeds (ap (λ (s : Kept). s.entries) made) (ap (λ (s : Kept). s.cuts) made)
