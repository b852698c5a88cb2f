use Rattle.std.proofs.Common.{refl}
use Rattle.bw_home.proofs.Keeping.{keeps_same, keeps_then}
use Rattle.bw_home.proofs.home.Home.let_pages_go.Goals as goal

pub batches-init : goal.batches-init
batches-init g c = keeps_same c.args.self.now c.args.self.now (λ z. (goal.Segment-dyn g z).holding z.1) c.requires c.requires.sound refl refl

pub batches-preserved : goal.batches-preserved
batches-preserved g c = keeps_then _ _ _ _ c.batches.invariant (keeps_then _ _ _ _ c.let_go.ensures c.let_long_go.ensures)

pub returns-then-is_empty : goal.returns-then-is_empty
returns-then-is_empty g c = keeps_then _ _ _ _ c.batches.invariant c.let_go.ensures

pub returns-in_err-let_long_go : goal.returns-in_err-let_long_go
returns-in_err-let_long_go g c = keeps_then _ _ _ _ c.batches.invariant (keeps_then _ _ _ _ c.let_go.ensures c.let_long_go.ensures)
