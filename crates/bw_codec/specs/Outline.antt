-- What is said of a block without its records and pairs.

use Rattle.std.specs.Prelude.{ℕ, ◌≡◌, ◌==◌, ◌||◌, Bool, false, Option, Some, None, length}
use Rattle.bw_codec.specs.Grammar.{block_bytes_in}
use Rattle.bw_record.specs.Touch.{touches}
use Rattle.bw_record.specs.declared.block.Block.{Block}
use Rattle.bw_record.specs.declared.block.Block.TheVariants.{Delta, Base, Split}
use Rattle.bw_codec.specs.declared.outline.Outline.{Outline}

-- how many bytes a block has in a format, the page that it changes, sets or splits, and the page that it makes
abbrev pub outline_of : ℕ → Block → Outline
outline_of v (Delta page back ops) = record { len = length (block_bytes_in v (Delta page back ops)); page = page; made = None }
outline_of v (Base leaf) = record { len = length (block_bytes_in v (Base leaf)); page = leaf.page; made = None }
outline_of v (Split page back upper) = record { len = length (block_bytes_in v (Split page back upper)); page = page; made = Some upper.page }

abbrev pub is_made : ℕ → Option ℕ → Bool
is_made p None = false
is_made p (Some page) = page == p

-- whether a block with this outline touches a page
abbrev pub outline_touches : ℕ → Outline → Bool
outline_touches p o = (o.page == p) || is_made p o.made

-- an outline touches what its block touches
abbrev pub OutlinesTouch : Type 0
OutlinesTouch = (v p : ℕ) (block : Block) → outline_touches p (outline_of v block) ≡ touches p block
