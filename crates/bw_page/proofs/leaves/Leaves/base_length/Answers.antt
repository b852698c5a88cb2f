use Rattle.bw_page.proofs.Bases.{all_bases}
use Rattle.bw_page.proofs.leaves.Leaves.base_length.Goals as goal

pub base_length-requires-clause-lawful : goal.base_length-requires-clause-lawful
base_length-requires-clause-lawful c = all_bases c.self.inside.m _ c.self.invariant.limit.1 c.self.invariant.lawful
