use Rattle.std.proofs.Common.{Option, refl, sym, subst}
use Rattle.bw_leaf.specs.Changed.{Bytes}
use Rattle.bw.specs.Walks.{IsFrom}
use Rattle.bw.proofs.Prefixes.{upto_least}
use Rattle.bw.proofs.walk.Walk.all.Goals as goal

pub returns : goal.returns
returns c = λ q is. (refl, subst (λ (o : Option Bytes). IsFrom o q) (sym c.ended.ensures) (upto_least q is))
