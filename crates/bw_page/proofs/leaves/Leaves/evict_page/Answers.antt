use Rattle.std.proofs.Common.{refl}
use Rattle.bw_page.proofs.Bases.{all_bases}
use Rattle.bw_page.proofs.Closed.{same_filed}
use Rattle.bw_page.proofs.leaves.Leaves.evict_page.Goals as goal

pub invariant_of-self : goal.invariant_of-self
invariant_of-self c = same_filed c.self.inside _ c.self.invariant refl c.evict_page.ensures.items (λ q. refl) refl

pub evict_page-requires-clause-lawful : goal.evict_page-requires-clause-lawful
evict_page-requires-clause-lawful c = all_bases c.self.inside.m _ c.self.invariant.limit.1 c.self.invariant.lawful
