use Rattle.std.proofs.Common.{sym, subst, Option}
use Rattle.bw_versions.specs.Reach.{Reach}
use Rattle.bw_versions.specs.Heard.{Beyond}
use Rattle.bw_versions.proofs.Sends.{fresh-beyond}
use Rattle.bw_versions.proofs.publisher.Publisher.reader.Goals as goal

pub new-requires : goal.new-requires
new-requires c =
    let v = c.self.invariant in
    subst (λ (z : Option Reach). Beyond c.self.inside.origin z) (sym c.in-Ok.ensures.view)
    (fresh-beyond _ c.self.inside.origin c.self.inside.front _ _ v.knows v.follows v.ends v.origin)
