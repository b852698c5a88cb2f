-- A page while it is read forwards: its pairs stand in its leaf, or in a tree in the place of these.

use Rattle.std.specs.Prelude.{Option, Some, None}
use Rattle.std.specs.BTreeMap as tree
use Rattle.bw_record.specs.declared.leaf.Leaf.{Leaf}
use Rattle.bw_leaf.specs.Changed.{Bytes, Pairs}
use Rattle.bw_leaf.specs.declared.draft.Draft.TheInside.{Inside}

abbrev pub pairs_of : Leaf → Option (tree.BTreeMap Bytes Bytes) → Pairs
pairs_of leaf None = leaf.pairs
pairs_of leaf (Some t) = t.entries

abbrev pub leaf_of : Inside → Leaf
leaf_of d = record d.leaf { pairs = pairs_of d.leaf d.tree }
