-- The leaves at which a store starts, as they wait.

use Rattle.std.specs.Prelude.{◌^◌, ◌<◌, ◌≤◌, ◌≡◌, [], length}
use Rattle.bw_page.specs.declared.start.Start.TheInside.{Inside}
use Rattle.bw_page.specs.Leaves.{AreLeaves}
use Rattle.bw_page.specs.Shown.{Shown}

abbrev pub start_view : Inside → Shown
start_view a = record { m = a.m; leaves = a.leaves.items; evicted = a.leaves.evicted }

pub record IsStart (a : Inside) : Type 0 where
  pub limit : (4 ≤ a.m) × (a.m ≤ 32)
  pub count : length a.leaves.items < 2 ^ 32
  pub lawful : AreLeaves a.m a.leaves.items
  -- all of them are in memory
  pub here : a.leaves.evicted ≡ []
