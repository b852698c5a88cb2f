-- A displaced leaf as it is kept.

use Rattle.std.specs.Prelude.{◌+◌, ◌≤◌, ◌≡◌, [], Bool, true, false, length, insert}
use Rattle.std.specs.Vec.{vec_len, vec_capacity}
use Rattle.bw_record.specs.Record.{key_of}
use Rattle.bw_record.specs.declared.leaf.Leaf.{Leaf}
use Rattle.bw_leaf.specs.Changed.{Bytes, without}
use Rattle.bw_page.specs.declared.journal.Kept.{Kept}
use Rattle.bw_page.specs.declared.journal.Kept.TheVariants.{Lost, Parted}
use Rattle.bw_page.specs.declared.journal.Displaced.TheInside.{Inside}
use Rattle.bw_page.specs.Displaced.{Displaced}

abbrev pub is_parted : Kept → Bool
is_parted (Lost at pair) = false
is_parted (Parted by) = true

-- the key of the record
abbrev pub kept_key : Kept → Bytes
kept_key (Lost at pair) = pair.0
kept_key (Parted by) = key_of by

abbrev pub displaced_view : Inside → Displaced
displaced_view a = record { leaf = a.was.value; pages = a.pages; key = kept_key a.kept; is_split = is_parted a.kept }

-- the pair that a leaf lost makes the others, at its place among them, those of the leaf
abbrev pub IsLost : Kept → Leaf → Type 0
IsLost (Lost at pair) was = (at ≤ length (without pair.0 was.pairs)) × (insert (without pair.0 was.pairs) at pair ≡ was.pairs)
IsLost (Parted by) was = Unit {0}

-- the leaf's page, room for its pairs and one more, and the pair that it lost, if it lost one
pub record IsKept (a : Inside) : Type 0 where
  pub page : a.page ≡ a.was.value.page
  pub empty : (a.room.items ≡ []) × (vec_len a.room ≡ 0)
  pub room : length a.was.value.pairs + 1 ≤ vec_capacity a.room
  pub lost : IsLost a.kept a.was.value
