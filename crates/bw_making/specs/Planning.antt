-- What one record adds if it splits its page: its blocks as a list, and why they are not planned.

use Rattle.std.specs.Prelude.{ℕ, ◌<◌, ◌≤◌, ◌-◌, ◌^◌, List}
use Rattle.bw_record.specs.declared.block.Block.{Block}
use Rattle.bw_page.specs.declared.fault.ApplyError.{ApplyError}
use Rattle.bw_page.specs.declared.fault.ApplyError.TheVariants.{NoMemory, Spent}
use Rattle.bw_making.specs.declared.blocks.Blocks.{Blocks}
use Rattle.bw_making.specs.declared.blocks.Blocks.TheVariants.{One, Two}

abbrev pub listed : Blocks → List Block
listed (One blocks) = blocks
listed (Two blocks) = blocks

-- want of memory, or of a number for one page more than there are, if a page has this many pairs,
-- and more than the most
abbrev pub IsWantingAt : ℕ → ℕ → ℕ → ApplyError → Type 0
IsWantingAt most pairs pages NoMemory = Unit {0}
IsWantingAt most pairs pages Spent = (most < pairs) × (2 ^ 32 - 1 ≤ pages)
