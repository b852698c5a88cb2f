-- What a block does, page by page, in short.

use Rattle.std.specs.Prelude.{ℕ, Bool, ◌==◌, ◌||◌}
use Rattle.bw_record.specs.declared.block.Block.{Block}
use Rattle.bw_record.specs.declared.block.Block.TheVariants.{Delta, Base, Split}
use Rattle.bw_buffer.specs.declared.mark.Mark.{Mark}
use Rattle.bw_buffer.specs.declared.mark.Mark.TheVariants.{Changes, Sets, Splits}

-- a Delta changes a page, a Base sets one, and a Split splits one and sets another
abbrev pub mark_of : Block → Mark
mark_of (Delta page back ops) = Changes page
mark_of (Base leaf) = Sets leaf.page
mark_of (Split page back upper) = Splits page upper.page

-- whether a block of this mark touches a page
abbrev pub is_closed_by : ℕ → Mark → Bool
is_closed_by p (Changes page) = page == p
is_closed_by p (Sets page) = page == p
is_closed_by p (Splits page upper) = (page == p) || (upper == p)
