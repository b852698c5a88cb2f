-- The split rule: the two parts that a leaf of more than m pairs becomes.

use Rattle.std.specs.Prelude.{ℕ, ◌+◌, ◌/◌, take, drop}
use Rattle.bw_codec.specs.Grammar.{first_key}
use Rattle.bw_record.specs.declared.leaf.Leaf.{Leaf}

-- of a leaf that is split, the part that stays: the first floor((m + 1) / 2) pairs
abbrev pub lower_of : ℕ → Leaf → Leaf
lower_of m leaf = record leaf { pairs = take ((m + 1) / 2) leaf.pairs }

-- the part that becomes a new page; its low is its first key
abbrev pub upper_of : ℕ → ℕ → Leaf → Leaf
upper_of m page leaf =
    let pairs = drop ((m + 1) / 2) leaf.pairs in record { page = page; low = first_key pairs; pairs = pairs }
