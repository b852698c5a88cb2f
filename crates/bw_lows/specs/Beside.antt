-- A block as it stands in memory: its lows, and their pages beside them.

use Rattle.std.specs.Prelude.{◌≡◌, List, length, zip}
use Rattle.bw_lows.specs.Rows.{Low}
use Rattle.bw_lows.specs.LowRow.{IsRow}
use Rattle.bw_lows.specs.declared.block.Block.TheInside.{Inside}

abbrev pub lows_of : Inside → List Low
lows_of b = zip b.entries.items b.pages.items

pub record IsBlock (b : Inside) : Type 0 where
  pub long : length b.pages.items ≡ length b.entries.items
  pub row : IsRow b.row.shared.items b.row.heads.items (lows_of b)
