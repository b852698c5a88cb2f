use Rattle.std.proofs.Common.{refl}
use Rattle.bw_home.proofs.Cuts.{stays_same}
use Rattle.bw.proofs.Prefixes.{stays}
use Rattle.bw.proofs.walk.Walk.next.Goals as goal

pub returns-in_default-clause-follows : goal.returns-in_default-clause-follows
returns-in_default-clause-follows g c = stays _

pub returns-clause-value : goal.returns-clause-value
returns-clause-value g c = c.pass.ensures.value _ c.in-Some.place c.in-Some.is c.in_ok-first.ensures.value

pub returns-in_default-clause-stays : goal.returns-in_default-clause-stays
returns-in_default-clause-stays g c = stays_same _ _ _ c.requires.sound refl refl
