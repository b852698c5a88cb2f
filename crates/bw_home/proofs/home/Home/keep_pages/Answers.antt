use Rattle.std.proofs.Common.{refl}
use Rattle.bw_home.proofs.Keeping.{keeps_map, keeps_same}
use Rattle.bw_home.proofs.home.Home.keep_pages.Goals as goal

pub returns-then-bytes-self-clause-keeps : goal.returns-then-bytes-self-clause-keeps
returns-then-bytes-self-clause-keeps g c =
    keeps_same c.args.self.now c.args.self.now (λ z. (goal.Segment-dyn g z).holding z.1) c.requires c.requires.sound refl refl

pub returns-in_err-let_pages_go-clause-stays : goal.returns-in_err-let_pages_go-clause-stays
returns-in_err-let_pages_go-clause-stays g c = keeps_map _ _ _ c.requires c.let_pages_go.ensures

pub returns-clause-stays : goal.returns-clause-stays
returns-clause-stays g c =
    let its = c.let_pages_go.ensures in
    keeps_map _ _ _ c.requires
    (record { ready = its.ready; feeds = its.feeds; entries = its.entries; follows = its.follows; boxes = its.boxes })
