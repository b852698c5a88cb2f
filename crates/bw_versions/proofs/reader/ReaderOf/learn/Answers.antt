use Rattle.std.proofs.Common.{subst}
use mathlib.Core.List.{IsPrefix}
use Rattle.bw_versions.specs.Heard.{Heard}
use Rattle.bw_versions.specs.Reach.{Reach}
use Rattle.bw_versions.proofs.Fronts.{prefix_self}
use Rattle.bw_versions.proofs.reader.ReaderOf.learn.Goals as goal

pub returns-then-not-has-clause-learnt : goal.returns-then-not-has-clause-learnt
returns-then-not-has-clause-learnt g c = (
  subst (λ (h : Heard). IsPrefix h.learnt c.news.inside.front.log) c.self.view_is c.if-not-has.ensures,
  subst (λ (r : Reach). IsPrefix r.log c.news.inside.front.log) c.news.view_is (prefix_self c.news.inside.front.log),
)
