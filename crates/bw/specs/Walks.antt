-- A walk over the pairs of a map whose keys begin with a prefix, if there is one.

use Rattle.std.specs.Prelude.{◌≡◌, ◌↔◌, Bool, true, false, IsTrue, Option, Some, None, nat_eq}
use Rattle.std.specs.List.{starts_with}
use Rattle.std.specs.FinMap as finite
use Rattle.bw_record.specs.Keys.{is_below, IsBytes, IsKey}
use Rattle.bw_leaf.specs.Changed.{Bytes, Map}

-- a key begins with the prefix
abbrev pub begins : Option Bytes → Bytes → Bool
begins None key = true
begins (Some prefix) key = starts_with nat_eq key prefix

-- the place where a walk goes on is below its prefix
abbrev pub is_early : Option Bytes → Option Bytes → Bool
is_early None place = false
is_early (Some prefix) None = false
is_early (Some prefix) (Some at) = is_below at prefix

-- a key is not below the place; after its end a walk has none
abbrev pub IsFrom : Option Bytes → Bytes → Type 0
IsFrom None key = ⊥
IsFrom (Some at) key = is_below key at ≡ false

-- a key that a walk may come to
abbrev pub IsAhead : Option Bytes → Option Bytes → Bytes → Type 0
IsAhead prefix place key = IsTrue (begins prefix key) × IsFrom place key

-- a key ahead has this value, and no lesser one that is ahead has any
pub record IsNextPair (map : Map) (Ahead : Bytes → Type 0) (pair : Bytes × Bytes) : Type 0 where
  pub its : finite.get map pair.0 ≡ Some pair.1
  pub ahead : Ahead pair.0
  pub none : (q : Bytes) → Ahead q → IsTrue (is_below q pair.0) → finite.get map q ≡ None

-- the first pair ahead, if there is one
abbrev pub IsNext : Map → (Bytes → Type 0) → Option (Bytes × Bytes) → Type 0
IsNext map Ahead None = (q : Bytes) → Ahead q → finite.get map q ≡ None
IsNext map Ahead (Some pair) = IsNextPair map Ahead pair

-- the place after an answer: ahead are the keys above the pair's that were; and none, if there was
-- no pair
abbrev pub HasPassed : Option Bytes → Option Bytes → Option Bytes → Option (Bytes × Bytes) → Type 0
HasPassed prefix was now None = now ≡ None
HasPassed prefix was now (Some pair) = (q : Bytes) → IsBytes q → IsKey q → IsAhead prefix now q ↔ (IsAhead prefix was q × IsTrue (is_below pair.0 q))
