-- One of some leaves after a record.

use Rattle.std.specs.Prelude.{ℕ, List, slice_index_or}
use Rattle.bw_record.specs.declared.leaf.Leaf.{Leaf}
use Rattle.bw_record.specs.declared.record.Record.{Record}
use Rattle.bw_leaf.specs.Changed.{changed}

-- the leaf at an index after a record; `d` is read only past the end
abbrev pub changed_at : Record → List Leaf → ℕ → Leaf → Leaf
changed_at r leaves at d = changed r (slice_index_or leaves at d)
