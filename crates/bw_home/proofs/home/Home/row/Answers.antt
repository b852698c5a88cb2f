use Rattle.std.proofs.Common.{refl}
use Rattle.bw_home.proofs.Cuts.{stays_same}
use Rattle.bw_home.proofs.home.Home.row.Goals as goal

pub returns-clause-stays : goal.returns-clause-stays
returns-clause-stays g c = stays_same _ _ _ c.requires.sound refl refl
