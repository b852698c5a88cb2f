-- Pairs of which only the keys and the lengths of the values are known.

use Rattle.std.specs.Prelude.{ℕ, ◌+◌, ◌≤◌, nat_le, ◌&&◌, Bool, replicate, List, map, length, take, drop}
use Rattle.std.specs.List.{AllByRecursion}
use Rattle.bw_record.specs.Keys.{is_below}
use Rattle.bw_leaf.specs.Changed.{Bytes, Pairs}
use Rattle.bw_leaf.specs.declared.hollow.Item.{Item}
use Rattle.bw_leaf.specs.declared.hollow.Hollow.TheInside.{Inside}

-- what stands for a value of so many bytes
abbrev pub blank : ℕ → Bytes
blank n = replicate n 0

abbrev pub hollow_pair : Bytes × Bytes → Bytes × Bytes
hollow_pair p = (p.0, blank (length p.1))

-- pairs, each value blank
abbrev pub hollow : Pairs → Pairs
hollow ps = map hollow_pair ps

-- ---- how they stand in memory

-- the key of an item stands among the bytes of all keys
abbrev pub IsIn : List ℕ → Item → Type 0
IsIn keys item = item.at + item.len ≤ length keys

abbrev pub key_in : List ℕ → Item → Bytes
key_in keys item = take item.len (drop item.at keys)

-- whether an item's key stands there, and is below a separator
abbrev pub is_kept : List ℕ → Bytes → Item → Bool
is_kept keys separator item = nat_le (item.at + item.len) (length keys) && is_below (key_in keys item) separator

abbrev pub pair_in : List ℕ → Item → Bytes × Bytes
pair_in keys item = (key_in keys item, blank item.size)

abbrev pub hollow_view : Inside → Pairs
hollow_view h = map (pair_in h.keys.items) h.items.items

abbrev pub AreIn : Inside → Type 0
AreIn h = AllByRecursion (IsIn h.keys.items) h.items.items
