use Rattle.std.proofs.Common.{map}
use Rattle.bw_page.proofs.Runs.{all_here}
use Rattle.bw_page.proofs.leaves.Leaves.apply_all.Goals as goal

pub apply_all_of-requires : goal.apply_all_of-requires
apply_all_of-requires c = all_here c.args.self.now (map (λ r. r) c.args.records.now) c.requires
