-- Which pages a block sets and which it touches, and the link back to the block before it.

use Rattle.std.specs.Prelude.{ℕ, Bool, false, ◌==◌, ◌||◌, if◌then◌else◌, Option, Some, None}
use Rattle.bw_record.specs.declared.block.Place.{Place}
use Rattle.bw_record.specs.declared.block.Block.{Block}
use Rattle.bw_record.specs.declared.block.Block.TheVariants.{Delta, Base, Split}

-- whether a block says what a page is, whatever it was before
abbrev pub sets : ℕ → Block → Bool
sets p (Delta page back ops) = false
sets p (Base leaf) = leaf.page == p
sets p (Split page back upper) = upper.page == p

-- whether a block says anything of a page
abbrev pub touches : ℕ → Block → Bool
touches p (Delta page back ops) = page == p
touches p (Base leaf) = leaf.page == p
touches p (Split page back upper) = (page == p) || (upper.page == p)

-- where the block before this one stands, if this one changes or splits the page
abbrev pub back_of : ℕ → Block → Option Place
back_of p (Delta page back ops) = if page == p then Some back else None
back_of p (Base leaf) = None
back_of p (Split page back upper) = if page == p then Some back else None
