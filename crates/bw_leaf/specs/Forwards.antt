-- What blocks say of one page, read forwards.

use Rattle.std.specs.Prelude.{ℕ, ◌==◌, if◌then◌else◌, Option, Some, None, List}
use Rattle.std.specs.List.{fold, filter, flat_map}
use Rattle.std.specs.Option.{option_map}
use Rattle.bw_record.specs.Keys.{is_below}
use Rattle.bw_record.specs.declared.leaf.Leaf.{Leaf}
use Rattle.bw_record.specs.declared.block.Block.{Block}
use Rattle.bw_record.specs.declared.block.Block.TheVariants.{Delta, Base, Split}
use Rattle.bw_record.specs.declared.block.Frame.{Frame}
use Rattle.bw_leaf.specs.Changed.{Bytes, all_changed}

-- a leaf without the pairs from a separator on
abbrev pub kept_below : Bytes → Leaf → Leaf
kept_below separator leaf = record leaf { pairs = filter (λ p. is_below p.0 separator) leaf.pairs }

-- what a page is after one more block, if it was set
abbrev pub after : ℕ → Option Leaf → Block → Option Leaf
after p was (Delta page back ops) = if page == p then option_map (all_changed ops) was else was
after p was (Base leaf) = if leaf.page == p then Some leaf else was
after p was (Split page back upper) =
    if upper.page == p then Some upper else if page == p then option_map (kept_below upper.low) was else was

-- what a page is after blocks, if one of them set it
abbrev pub content : ℕ → List Block → Option Leaf
content p blocks = fold (after p) None blocks

-- all blocks of frames, in order
abbrev pub blocks_of : List Frame → List Block
blocks_of frames = flat_map (λ f. f.blocks) frames
