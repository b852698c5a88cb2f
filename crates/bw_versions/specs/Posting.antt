-- A board keeps its leaves beside the entries that they are the fold of.

use Rattle.std.specs.Prelude.{◌≡◌, [], map}
use Rattle.bw_page.specs.Leaves.{union, plain}
use Rattle.bw_versions.specs.declared.board.Board.TheInside.{Inside}
use Rattle.bw_history.specs.Entries.{records}
use Rattle.bw_versions.specs.Posted.{Posted, pages_of}

abbrev pub view_of : Inside → Posted
view_of a = record { start = a.start.value; entries = map (λ s. s.value) a.entries.items }

pub record IsPosted (a : Inside) : Type 0 where
  pub pages : a.leaves ≡ pages_of (view_of a)
  -- the union of all pairs is the plain map
  pub plainly : union a.leaves.leaves ≡ plain a.start.value.leaves (records (view_of a).entries)
  -- every page is in memory
  pub here : a.start.value.evicted ≡ []
