use Rattle.std.proofs.Common.{◌∙◌, ap}
use Rattle.bw_versions.specs.Publishing.{Publishing}
use Rattle.bw_versions.proofs.publisher.Publisher.news.Goals as goal

pub returns-clause-told : goal.returns-clause-told
returns-clause-told c =
    c.of.ensures ∙ c.again.ensures ∙ ap (λ v. v.mark) c.published.ensures ∙ ap (λ (s : Publishing). s.published) c.self.view_is
