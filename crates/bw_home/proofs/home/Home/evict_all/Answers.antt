use Rattle.std.proofs.Common.{refl}
use Rattle.bw_home.proofs.Keeping.{keeps_same, keeps_then}
use Rattle.bw_home.proofs.home.Home.evict_all.Goals as goal

pub pages-init : goal.pages-init
pages-init g c = keeps_same c.args.self.now c.args.self.now (λ z. (goal.Segment-dyn g z).holding z.1) c.requires c.requires.sound refl refl

pub pages-preserved : goal.pages-preserved
pages-preserved g c = keeps_then _ _ _ _ c.pages.invariant c.evict.ensures
