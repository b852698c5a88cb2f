-- Leaves beside an index of their lows.

use Rattle.std.specs.Prelude.{◌^◌, ◌<◌, ◌≤◌, ◌≡◌, length, drop}
use Rattle.std.specs.FinMap.Entries.{find}
use Rattle.bw_page.specs.declared.leaves.Leaves.TheInside.{Inside}
use Rattle.bw_leaf.specs.Changed.{Bytes, order}
use Rattle.bw_page.specs.Leaves.{AreLeaves, union}
use Rattle.bw_lows.specs.LowHeads.{page_of_low}
use Rattle.bw_page.specs.Shown.{Shown}
use Rattle.bw_page.specs.Lows.{lows_of}
use Rattle.bw_page.specs.Gap.{IsGap}

abbrev pub view_of : Inside → Shown
view_of a = record { m = a.m; leaves = a.leaves.items; evicted = a.leaves.evicted }

pub record IsIndexed (a : Inside) : Type 0 where
  pub limit : (4 ≤ a.m) × (a.m ≤ 32)
  pub count : length a.leaves.items < 2 ^ 32
  pub lawful : AreLeaves a.m a.leaves.items
  -- the index gives the page of each low but the first, which is empty
  pub index : (q : Bytes) → page_of_low a.index q ≡ find order q (lows_of (drop 1 a.leaves.items))
  -- no page has a pair in the gap
  pub gap : IsGap (union a.leaves.items) a.gap
