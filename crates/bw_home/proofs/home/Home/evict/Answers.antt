use Rattle.std.proofs.Common.{refl, subst, sym}
use Rattle.bw_core.specs.Kept.{IsSound}
use Rattle.bw_home.proofs.Keeping.{keeps_same}
use Rattle.bw_home.proofs.home.Home.evict.Goals as goal

pub returns : goal.returns
returns g c =
    let its = c.evict.ensures in
    keeps_same c.args.self.now (record c.args.self.now { store = c.evict.new.self }) (λ z. (goal.Segment-dyn g z).holding z.1)
    c.requires (subst IsSound (sym its.same) c.requires.sound) refl its.same
