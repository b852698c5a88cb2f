use Rattle.std.proofs.Common.{◌≡◌, subst}
use mathlib.Core.List.{IsPrefix}
use Rattle.bw_versions.specs.Publishing.{Publishing}
use Rattle.bw_versions.proofs.Sends.{behind}
use Rattle.bw_versions.proofs.publisher.Publisher.is_behind.Goals as goal

pub returns-clause-book : goal.returns-clause-book
returns-clause-book c =
    let i = c.self.inside in
    let v = c.self.invariant in
    subst (λ (s : Publishing). s.published.book ≡ s.entered.book) c.self.view_is
    (behind i.writer.desk.shown.value.mark i.front _ v.follows v.ends).0

pub returns-clause-log : goal.returns-clause-log
returns-clause-log c =
    let i = c.self.inside in
    let v = c.self.invariant in
    subst (λ (s : Publishing). IsPrefix s.published.log s.entered.log) c.self.view_is
    (behind i.writer.desk.shown.value.mark i.front _ v.follows v.ends).1
