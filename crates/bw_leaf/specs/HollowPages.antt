-- Pages of which only the keys and the lengths of the values are known, as they stand in memory.

use Rattle.std.specs.Prelude.{◌≡◌}
use Rattle.bw_record.specs.declared.leaf.Leaf.{Leaf}
use Rattle.bw_leaf.specs.Changed.{Pairs}
use Rattle.bw_leaf.specs.Hollow.{hollow}
use Rattle.bw_leaf.specs.declared.hollow_page.Row.{Row}
use Rattle.bw_leaf.specs.declared.hollow_page.Row.TheVariants.{Few, Many}
use Rattle.bw_leaf.specs.declared.hollow_page.HollowDraft.TheInside.{Inside as DraftInside}
use Rattle.bw_leaf.specs.declared.hollow_page.HollowPage.TheInside.{Inside as PageInside}

abbrev pub row_pairs : Row → Pairs
row_pairs (Few pairs) = pairs
row_pairs (Many draft) = draft.pairs

-- the page is the one known: its number, its low, its keys and the lengths of its values
pub record IsHollowDraft (d : DraftInside) : Type 0 where
  pub page : d.page ≡ d.was.value.page
  pub low : d.low ≡ d.was.value.low
  pub pairs : hollow (row_pairs d.row) ≡ hollow d.was.value.pairs

abbrev pub draft_view : DraftInside → Leaf
draft_view d = d.was.value

pub record IsHollowPage (d : PageInside) : Type 0 where
  pub page : d.page ≡ d.was.value.page
  pub low : d.low ≡ d.was.value.low
  pub pairs : hollow d.pairs ≡ hollow d.was.value.pairs

abbrev pub page_view : PageInside → Leaf
page_view d = d.was.value
