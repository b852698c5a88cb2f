use Rattle.std.proofs.Common.{ap, subst, sym}
use Rattle.bw_history.specs.Machine.{Machine}
use Rattle.bw_leaf.specs.Changed.{Map}
use Rattle.bw_core.proofs.Relived.{go_on}
use Rattle.bw_home.specs.Cuts.{IsAmong}
use Rattle.bw_home.specs.Laws.{cuts_of}
use Rattle.bw_home.proofs.Cuts.{begin_put, left_among}
use Rattle.bw_home.proofs.laws.a_map_goes_on.Goals as goal

pub returns : goal.returns
returns c = λ feeds old new is sound machine begins.
    let relives = go_on old new sound begins in
    subst (λ (m : Map). IsAmong (cuts_of feeds old) m) (sym (ap (λ (m : Machine). m.start) relives.machine))
    (left_among old _ relives.left machine (begin_put feeds old.entries is.one is.heard) relives.may_leave)
