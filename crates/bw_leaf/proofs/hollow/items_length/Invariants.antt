use Rattle.std.proofs.Common.{◌≡◌, ◌≤◌, ◌*◌, length, map, take}
use Rattle.std.specs.List.{flat_map}
use Rattle.bw_codec.specs.Grammar.{pair_bytes}
use Rattle.bw_leaf.specs.Hollow.{pair_in}
use Rattle.bw_leaf.proofs.hollow.items_length.Given as goal

abbrev pub invariant-loop-item : goal.invariant-loop-item
invariant-loop-item l = record {
  value : l.total ≡ length (flat_map pair_bytes (map (pair_in l._keys) (take l.item-index l.items)));
  small : l.total ≤ 131073 * l.item-index;
}
