use Rattle.std.proofs.Common.{refl}
use Rattle.bw_home.proofs.Keeping.{keeps_same}
use Rattle.bw_home.proofs.home.Home.let_go.Goals as goal

pub returns : goal.returns
returns g c =
    let its = c.keep_pages.ensures in
    keeps_same c.args.self.now (record c.args.self.now { store = c.keep_pages.new.self }) (λ z. (goal.Segment-dyn g z).holding z.1)
    c.requires its.sound refl its.same
