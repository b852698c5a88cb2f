use Rattle.std.proofs.Common.{ap, refl}
use Rattle.bw_core.specs.Kept.{Kept}
use Rattle.bw_home.proofs.Cuts.{stays_as}
use Rattle.bw_home.proofs.home.Home.get_shared.Goals as goal

pub returns-clause-stays : goal.returns-clause-stays
returns-clause-stays g c =
    let reads = c.get_shared.ensures.reads in
    stays_as _ _ _ c.requires.sound reads.sound reads.follows.continues refl (ap (λ (k : Kept). k.entries) reads.read.is)
