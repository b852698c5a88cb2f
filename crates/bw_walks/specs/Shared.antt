-- Pairs that are handed out without a copy of their bytes.

use Rattle.std.specs.Prelude.{Option}
use Rattle.std.specs.Option.{option_map}
use Rattle.std.specs.FinMap.Entries.{find}
use Rattle.bw_leaf.specs.Changed.{Bytes, Pairs, order}

-- a key with its value, if it has one
abbrev pub with_key : Bytes → Option Bytes → Option (Bytes × Bytes)
with_key key value = option_map (λ v. (key, v)) value

-- the pair of a key on a page, if it has one
abbrev pub pair_at : Bytes → Pairs → Option (Bytes × Bytes)
pair_at key pairs = with_key key (find order key pairs)
