-- What the frame in the making does to the pages that the log has.

use Rattle.std.specs.Prelude.{ℕ, ◌==◌, ◌||◌, Bool, false, List}
use Rattle.std.specs.List.{list_any}
use Rattle.bw_record.specs.declared.block.Block.{Block}
use Rattle.bw_record.specs.declared.block.Block.TheVariants.{Delta, Base, Split}
use Rattle.bw_buffer.specs.declared.mark.Mark.{Mark}
use Rattle.bw_buffer.specs.declared.mark.Mark.TheVariants.{Changes, Sets, Splits}

-- whether a block makes a page or splits it: without this block no records lead from the page in the log to the page
abbrev pub makes : ℕ → Block → Bool
makes p (Delta page back ops) = false
makes p (Base leaf) = leaf.page == p
makes p (Split page back upper) = (page == p) || (upper.page == p)

abbrev pub is_made : ℕ → List Block → Bool
is_made p blocks = list_any (makes p) blocks

-- whether a block of this mark makes a page or splits it
abbrev pub made_by : ℕ → Mark → Bool
made_by p (Changes page) = false
made_by p (Sets page) = page == p
made_by p (Splits page upper) = (page == p) || (upper == p)

-- whether a block of this mark has records of a page
abbrev pub changed_by : ℕ → Mark → Bool
changed_by p (Changes page) = page == p
changed_by p (Sets page) = false
changed_by p (Splits page upper) = false
