-- The pairs of pages in the order of their keys, from a key on.

use Rattle.std.specs.Prelude.{◌≡◌, ◌⊎◌, ℕ, ◌+◌, ◌<◌, ◌≤◌, false, IsTrue, IsSome, if◌then◌else◌, Option, Some, None, List, [], ◌∷◌, length}
use Rattle.std.specs.List.{AllByRecursion}
use Rattle.std.specs.FinMap as finite
use Rattle.std.specs.FinMap.Entries.{find}
use Rattle.bw_record.specs.Keys.{is_below, ascends}
use Rattle.bw_record.specs.declared.leaf.Leaf.{Leaf}
use Rattle.bw_leaf.specs.Changed.{Bytes, Pairs, Map, order}
use Rattle.bw_page.specs.Lows.{lows_of}

-- ---- a map

-- no key at or above this one has a value
abbrev pub HasNoPair : Map → Bytes → Type 0
HasNoPair map key = (q : Bytes) → is_below q key ≡ false → finite.get map q ≡ None

-- a pair of the map, at or above a key, and no key between the two has a value
pub record IsFirstPair (map : Map) (key : Bytes) (pair : Bytes × Bytes) : Type 0 where
  pub its : finite.get map pair.0 ≡ Some pair.1
  pub from : is_below pair.0 key ≡ false
  pub none : (q : Bytes) → is_below q key ≡ false → IsTrue (is_below q pair.0) → finite.get map q ≡ None

-- the pair with the least key at or above this one, if there is one
abbrev pub IsFirst : Map → Bytes → Option (Bytes × Bytes) → Type 0
IsFirst map key None = HasNoPair map key
IsFirst map key (Some pair) = IsFirstPair map key pair

-- a walk from a key has come to another: no key between has a value
pub record HasCome (map : Map) (key to : Bytes) : Type 0 where
  pub upto : is_below to key ≡ false
  pub none : (q : Bytes) → is_below q key ≡ false → IsTrue (is_below q to) → finite.get map q ≡ None

-- ---- the lows

-- no page's low is above a key
abbrev pub HasNoLowAbove : List Leaf → Bytes → Type 0
HasNoLowAbove leaves key = AllByRecursion (λ l. is_below key l.low ≡ false) leaves

-- the least low of a page above a key
pub record IsNextLow (leaves : List Leaf) (key low : Bytes) : Type 0 where
  pub its : IsSome (find order low (lows_of leaves))
  pub above : IsTrue (is_below key low)
  pub least : AllByRecursion (λ l. IsTrue (is_below key l.low) → is_below l.low low ≡ false) leaves

-- how many pages have their low above a key
abbrev pub ahead : Bytes → List Leaf → ℕ
ahead key [] = 0
ahead key (l ∷ ls) = (if is_below key l.low then 1 else 0) + ahead key ls

-- ---- a stretch of pairs

-- one of the pairs is at or above a key
abbrev pub Reaches : Bytes → Pairs → Type 0
Reaches q [] = ⊥
Reaches q (p ∷ ps) = (is_below p.0 q ≡ false) ⊎ Reaches q ps

-- the pairs of a map at or above a key, in order, and no more than so many
pub record IsStretch (map : Map) (key : Bytes) (most : ℕ) (pairs : Pairs) : Type 0 where
  pub few : length pairs ≤ most
  pub ascends : IsTrue (ascends pairs)
  pub from : AllByRecursion (λ p. is_below p.0 key ≡ false) pairs
  -- each key up to the last of them has the value that they give; and so has every key, if there
  -- are fewer
  pub all : (q : Bytes) → is_below q key ≡ false → (length pairs < most) ⊎ Reaches q pairs → finite.get map q ≡ find order q pairs

-- a walk from a key has come to another with these pairs
pub record HasGone (map : Map) (key to : Bytes) (most : ℕ) (pairs : Pairs) : Type 0 where
  pub few : length pairs ≤ most
  pub ascends : IsTrue (ascends pairs)
  pub from : AllByRecursion (λ p. is_below p.0 key ≡ false) pairs
  pub below : AllByRecursion (λ p. IsTrue (is_below p.0 to)) pairs
  pub upto : is_below to key ≡ false
  pub all : (q : Bytes) → is_below q key ≡ false → IsTrue (is_below q to) → (length pairs < most) ⊎ Reaches q pairs
      → finite.get map q ≡ find order q pairs
