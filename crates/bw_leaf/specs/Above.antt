-- The pairs of a page at or above a key.

use Rattle.std.specs.Prelude.{ℕ, ◌-◌, if◌then◌else◌, Option, Some, None, [], ◌∷◌, ◌++◌, take, length}
use Rattle.bw_record.specs.Keys.{is_below}
use Rattle.bw_leaf.specs.Changed.{Bytes, Pairs}

-- the first pair of a page at or above a key
abbrev pub pair_above : Bytes → Pairs → Option (Bytes × Bytes)
pair_above key [] = None
pair_above key (p ∷ ps) = if is_below p.0 key then pair_above key ps else Some p

-- the pairs of a page at or above a key
abbrev pub pairs_above : Bytes → Pairs → Pairs
pairs_above key [] = []
pairs_above key (p ∷ ps) = if is_below p.0 key then pairs_above key ps else p ∷ ps

-- pairs, with as many of others as there are wanting
abbrev pub with_some : ℕ → Pairs → Pairs → Pairs
with_some most pairs others = pairs ++ take (most - length pairs) others
