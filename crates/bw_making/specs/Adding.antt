-- What a record adds to the frame in the making.

use Rattle.std.specs.Prelude.{ℕ, ◌+◌, ◌-◌, nat_le, if◌then◌else◌, Option, Some, None, List, [], ◌∷◌, ◌++◌, length, slice_get, slice_set, unwrap_or}
use Rattle.bw_record.specs.Record.{key_of}
use Rattle.bw_record.specs.declared.record.Record.{Record}
use Rattle.bw_record.specs.declared.leaf.Leaf.{Leaf}
use Rattle.bw_record.specs.declared.block.Place.{Place}
use Rattle.bw_record.specs.declared.block.Block.{Block}
use Rattle.bw_record.specs.declared.block.Block.TheVariants.{Delta, Split}
use Rattle.bw_record.specs.declared.block.Frame.{Frame}
use Rattle.bw_leaf.specs.Changed.{changed}
use Rattle.bw_page.specs.Leaves.{home, directed_at, applied}
use Rattle.bw_leaf.specs.SplitRule.{upper_of}
use Rattle.bw_buffer.specs.Joining.{joins, added}

-- a frame with further blocks, of which Deltas join
abbrev pub with_blocks : Frame → List Block → Frame
with_blocks frame blocks = record frame { blocks = added frame.blocks blocks }

-- where the next block of a frame goes, if it joins none
abbrev pub end_of : Frame → Place
end_of frame = record { frame = frame.number; index = length frame.blocks }

-- where the Delta of a record of this page goes: into the block that it joins, or to the end
abbrev pub here_for : Frame → ℕ → Place
here_for frame p = record { frame = frame.number; index = unwrap_or (joins p frame.blocks) (length frame.blocks) }

-- how many blocks there are with a Delta that joined this one of them, or none
abbrev pub count_after : Option ℕ → ℕ → ℕ
count_after None n = n + 1
count_after (Some i) n = n

-- where a Split after that Delta goes: after all blocks
abbrev pub last_for : Frame → ℕ → Place
last_for frame p = record { frame = frame.number; index = count_after (joins p frame.blocks) (length frame.blocks) }

-- ---- one record

-- the leaf at which it is directed, after it
abbrev pub result_of : List Leaf → Record → Leaf
result_of leaves r = changed r (home (key_of r) leaves)

-- its Delta, and a Split if its page has too many pairs; the Delta goes to the place `here`
abbrev pub blocks_for : ℕ → List Leaf → Place → Place → Record → List Block
blocks_for m leaves back here r =
    if nat_le (length (result_of leaves r).pairs) m then Delta (directed_at leaves r) back (r ∷ []) ∷ []
    else Delta (directed_at leaves r) back (r ∷ []) ∷ Split (directed_at leaves r) here (upper_of m (length leaves + 1) (result_of leaves r)) ∷ []

-- the newest place of each page, after it, if its Split goes to the place `last`
abbrev pub places_after : ℕ → List Leaf → Place → Place → Record → List Place → List Place
places_after m leaves here last r newest =
    if nat_le (length (result_of leaves r).pairs) m then slice_set newest (directed_at leaves r - 1) here
    else slice_set newest (directed_at leaves r - 1) last ++ last ∷ []

-- newest places if so many blocks of a page were added, the first of them here
abbrev pub noted : List Place → ℕ → Place → Place → ℕ → List Place
noted newest page here last count =
    if nat_le count 1 then slice_set newest (page - 1) here else slice_set newest (page - 1) last ++ last ∷ []

-- the upper part of a leaf that has too many pairs
abbrev pub upper_if : ℕ → ℕ → Leaf → Option Leaf
upper_if m page leaf = if nat_le (length leaf.pairs) m then None else Some (upper_of m page leaf)

abbrev pub planned : ℕ → Place → Place → Record → Option Leaf → List Block
planned page back here r None = Delta page back (r ∷ []) ∷ []
planned page back here r (Some upper) = Delta page back (r ∷ []) ∷ Split page here upper ∷ []

-- ---- a group: one record after the other, each on the pages, places and blocks after the one
-- before

-- no block
abbrev pub nowhere : Place
nowhere = record { frame = 0; index = 0 }

-- what the blocks of a record are made from: the pages, the last block of each, and the frame in the making
pub record Drawn : Type 0 where
  pub leaves : List Leaf
  pub newest : List Place
  pub frame : Frame

-- the last block of the page at which a record is directed
abbrev pub back_in : Drawn → Record → Place
back_in d r = unwrap_or (slice_get d.newest (directed_at d.leaves r - 1)) nowhere

-- the blocks that a record adds
abbrev pub blocks_in : ℕ → Drawn → Record → List Block
blocks_in m d r = blocks_for m d.leaves (back_in d r) (here_for d.frame (directed_at d.leaves r)) r

-- the pages, places and blocks after it
abbrev pub drawn_by : ℕ → Drawn → Record → Drawn
drawn_by m d r = record {
  leaves = applied m d.leaves r;
  newest = places_after m d.leaves (here_for d.frame (directed_at d.leaves r)) (last_for d.frame (directed_at d.leaves r)) r d.newest;
  frame = with_blocks d.frame (blocks_in m d r);
}

-- all blocks of a group, in order
abbrev pub blocks_all : ℕ → Drawn → List Record → List Block
blocks_all m d [] = []
blocks_all m d (r ∷ rs) = blocks_in m d r ++ blocks_all m (drawn_by m d r) rs
