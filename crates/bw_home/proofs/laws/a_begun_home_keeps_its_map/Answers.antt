use Rattle.bw_home.proofs.Beginning.{keeps_its_map}
use Rattle.bw_home.proofs.laws.a_begun_home_keeps_its_map.Goals as goal

pub returns : goal.returns
returns g c = keeps_its_map c.args.home.now (λ z. (goal.Segment-dyn g z).holding z.1) c.requires
