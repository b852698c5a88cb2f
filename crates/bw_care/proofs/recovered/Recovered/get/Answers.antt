use Rattle.bw_care.specs.Views.{seen}
use Rattle.bw_care.proofs.Warmed.{value_is}
use Rattle.bw_care.proofs.recovered.Recovered.get.Goals as goal

pub returns-in-Ok-clause-value : goal.returns-in-Ok-clause-value
returns-in-Ok-clause-value g c =
    value_is (seen c.args.self.now.log (λ z. (goal.Segment-dyn g z).holding z.1)) c.args.self.now.leaves.m c.args.self.now.leaves.leaves c.args.key.now
    c.find-page.result c.requires.stands c.find-page.ensures.directed c.find-page.ensures.within c.in-Ok.ensures.value
